-- `part_of`: each way out of it by one lemma of `PartsMade`. Assumes nothing.
use Rattle.std.proofs.Common.{◌≡◌, List, ◌++◌, take, Some, None, Ok, sym, refl, ap, subst, arith, rules}
use Rattle.std.proofs.lemmas.Result.{err_from_is_err_and}
use Rattle.types.specs.declared.entries.TypeEntry.{TypeEntry}
use Rattle.building.specs.Entries.{Closes, counted}
use Rattle.building.specs.Made.{MakesPart}
use Rattle.building.proofs.PartsMade.{own_answer, any_made, no_room_made, union_lacking, union_part_made}
use Rattle.building.proofs.parts.part_of.Goals as goal

pub returns-in_default : goal.returns-in_default
returns-in_default c = record {
  made = own_answer _ _ _ _ c.own_part.result c.map.result c.map.ensures.cases (λ x m k. search rules) c.in_default.not-Union c.own_part.ensures;
  kept = λ j lt. refl;
}

pub returns-then-has_any_part-clause-made : goal.returns-then-has_any_part-clause-made
returns-then-has_any_part-clause-made c low =
    any_made _ _ c.in-Union.is c.in-Some.ensures.0 c.in-Some.ensures.1 low c.if-has_any_part.ensures low

pub returns-in_err-ok_or-clause-made : goal.returns-in_err-ok_or-clause-made
returns-in_err-ok_or-clause-made c low =
    let s = c.split_at_mut-parts.ensures in
    let p = err_from_is_err_and c.from_residual.result c.from_residual.ensures.1 in
    let u = c.add_parts.new.self in
    let none : c.add_parts.result ≡ None = grind (arith, c.in_err-ok_or.ensures.value) in
    let e = c.add_parts.ensures.lent.0 in
    no_room_made _ _ c.in-Union.is c.in-Some.ensures.0 c.in-Some.ensures.1 low c.if-has_any_part.ensures _ _ u.slots.now _ s.value s.front_len refl _ (counted c.add_parts.result u.count) p.0 p.1 (search rules) (ap (λ r. counted r u.count) none) (c.add_parts.ensures.added refl) low

pub returns-then-open-eq0-clause-made : goal.returns-then-open-eq0-clause-made
returns-then-open-eq0-clause-made c low =
    let s = c.split_at_mut-parts.ensures in
    let u = c.add_parts.new.self in
    let some : c.add_parts.result ≡ Some c.in_ok-ok_or.field-0 = grind (arith, c.in_ok-ok_or.ensures.value) in
    union_lacking _ _ c.in-Union.is c.in-Some.ensures.0 c.in-Some.ensures.1 low c.if-has_any_part.ensures _ _ u.slots.now _ s.value s.front_len refl _ u.count (ap (λ r. counted r u.count) some) (c.add_parts.ensures.added refl) c.args.types.now c.if-open-eq0.true low

pub returns-clause-made : goal.returns-clause-made
returns-clause-made c low =
    let s = c.split_at_mut-parts.ensures in
    let u = c.add_parts.new.self in
    let ps = c.split_at_mut-parts.result.0.now in
    let some : c.add_parts.result ≡ Some c.in_ok-ok_or.field-0 = grind (arith, c.in_ok-ok_or.ensures.value) in
    let g = subst (λ ps. Closes ps (take u.count u.slots.now) c.close.result) c.add_parts.ensures.lent.1 c.close.ensures in
    let e = c.add_parts.ensures.lent.0 in
    let made = union_part_made _ _ c.in-Union.is c.in-Some.ensures.0 c.in-Some.ensures.1 low c.if-has_any_part.ensures _ _ u.slots.now _ s.value s.front_len refl _ u.count (ap (λ r. counted r u.count) some) (c.add_parts.ensures.added refl) c.close.result c.if-open-eq0.false g in
    ended {y = u.slots.now} (λ fs. MakesPart c.args.types.now (ps ++ fs) c.args.a.used c.args.a.entry c.args.side (Ok (Some c.close.result))) (search rules) made low
  where
    ended : {x y : List TypeEntry} (P : List TypeEntry → Type 0) → x ≡ y → P y → P x
    ended P e p = subst P (sym e) p
