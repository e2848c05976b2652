-- The part of a type that is no union. Assumes nothing.
use Rattle.std.proofs.Common.{◌≡◌, ℕ, List, Some, sym, subst, arith}
use Rattle.types.specs.declared.entries.TypeEntry.{TypeEntry}
use Rattle.types.specs.declared.entries.TypeEntry.TheVariants.{Any, Pair, List as ListOf}
use Rattle.types.specs.Types.{Ty, any, pair, list}
use Rattle.types.specs.Table.{entry_at, Is, is_any, is_pair, is_list}
use Rattle.types.specs.declared.entries.Root.{Root}
use Rattle.types.specs.Roots.{root_at}
use Rattle.building.specs.declared.parts.Side.{Side}
use Rattle.building.specs.declared.parts.Side.TheVariants.{Head, Tail}
use Rattle.building.specs.HeadsAndTails.{OwnPart, of_any, head_of_pair, tail_of_pair, head_of_list, tail_of_list}
use Rattle.building.specs.Made.{PartHeld, GivesPart}
use Rattle.types.proofs.Lower.{higher}
use Rattle.types.proofs.Parts.{known}

pub any_part : {es : List TypeEntry} {n : ℕ} {e : TypeEntry} {side : Side} → e ≡ Any → GivesPart es n e side (Some e)
any_part {es} {n} {e} {side} is le t h = go (known is h)
  where
    go : {t : Ty} → Is es n Any t → PartHeld es n side t e
    go is_any = record { part = any; is_part = of_any; holds = subst (λ x. Is es n x any) (sym is) is_any }

pub pair_head : {es : List TypeEntry} {n head tail : ℕ} {e : TypeEntry} {side : Side} {x : Root} → e ≡ Pair head tail → side ≡ Head → x ≡ root_at es head → GivesPart es n e side (Some x.entry)
pair_head {es} {n} {head} {tail} {e} {side} is s at le t h = subst (λ z. PartHeld es n side t z.entry) (sym at) (go (known is h))
  where
    go : {t : Ty} → Is es n (Pair head tail) t → PartHeld es n side t (entry_at es head)
    go (is_pair {a} {b} low low' x y) = record { part = a; is_part = subst (λ z. OwnPart z (pair a b) a) (sym s) head_of_pair; holds = higher n (omega arith) x }

pub pair_tail : {es : List TypeEntry} {n head tail : ℕ} {e : TypeEntry} {side : Side} {x : Root} → e ≡ Pair head tail → side ≡ Tail → x ≡ root_at es tail → GivesPart es n e side (Some x.entry)
pair_tail {es} {n} {head} {tail} {e} {side} is s at le t h = subst (λ z. PartHeld es n side t z.entry) (sym at) (go (known is h))
  where
    go : {t : Ty} → Is es n (Pair head tail) t → PartHeld es n side t (entry_at es tail)
    go (is_pair {a} {b} low low' x y) = record { part = b; is_part = subst (λ z. OwnPart z (pair a b) b) (sym s) tail_of_pair; holds = higher n (omega arith) y }

pub list_head : {es : List TypeEntry} {n element : ℕ} {e : TypeEntry} {side : Side} {x : Root} → e ≡ ListOf element → side ≡ Head → x ≡ root_at es element → GivesPart es n e side (Some x.entry)
list_head {es} {n} {element} {e} {side} is s at le t h = subst (λ z. PartHeld es n side t z.entry) (sym at) (go (known is h))
  where
    go : {t : Ty} → Is es n (ListOf element) t → PartHeld es n side t (entry_at es element)
    go (is_list {t} low x) = record { part = t; is_part = subst (λ z. OwnPart z (list t) t) (sym s) head_of_list; holds = higher n (omega arith) x }

pub list_tail : {es : List TypeEntry} {n element : ℕ} {e : TypeEntry} {side : Side} → e ≡ ListOf element → side ≡ Tail → GivesPart es n e side (Some e)
list_tail {es} {n} {element} {e} {side} is s le t h = go (known is h)
  where
    go : {t : Ty} → Is es n (ListOf element) t → PartHeld es n side t e
    go (is_list {t} low x) = record { part = list t; is_part = subst (λ z. OwnPart z (list t) (list t)) (sym s) tail_of_list; holds = subst (λ y. Is es n y (list t)) (sym is) (is_list low x) }
