-- Open unions: whether a type is a member. Assumes nothing.
use Rattle.std.proofs.Common.{ℕ, zero, suc, ◌<◌, Bool, true, false, List, [], ◌∷◌, length, sym, refl, subst, arith}
use Rattle.std.proofs.lemmas.Bool.{both_ways}
use Rattle.types.specs.declared.entries.TypeEntry.{TypeEntry}
use Rattle.types.specs.Types.{Ty, Types, ◌and◌}
use Rattle.types.specs.Table.{entry_at, Is}
use Rattle.building.specs.Unions.{In, in_first, in_other}
use Rattle.building.specs.Entries.{SaysIn}
use Rattle.building.specs.Made.{SaysSameType, Hold, hold_none, hold_more}

-- r says whether member k is the type e
abbrev MemberSame : List TypeEntry → List TypeEntry → TypeEntry → ℕ → Bool → Type 0
MemberSame ps hs e k r = SaysSameType ps (length ps) (entry_at hs k) (length ps) e r

one_same : {ps : List TypeEntry} (hs : List TypeEntry) {e : TypeEntry} {t : Ty} {ms : Types} (k : ℕ) → k < length hs → Is ps (length ps) e t → Hold ps (length ps) hs ms → MemberSame ps hs e k true → In t ms
one_same [] k lt h hold_none d = absurd (omega arith)
one_same (x ∷ hs) {t} zero lt h (hold_more {ts} y s) d = subst (λ u. In t (u and ts)) (sym ((d (omega arith) (omega arith) _ t y h).0 refl)) in_first
one_same (x ∷ hs) (suc k) lt h (hold_more y s) d = in_other (one_same hs k (omega arith) h s d)

none_same : {ps : List TypeEntry} (hs : List TypeEntry) {e : TypeEntry} {t : Ty} {ms : Types} → Is ps (length ps) e t → Hold ps (length ps) hs ms → ((k : ℕ) → k < length hs → MemberSame ps hs e k false) → In t ms → ⊥
none_same [] h hold_none all p = elim p [ ]
none_same (x ∷ hs) {t} h (hold_more y s) all in_first = both_ways false refl ((all 0 (omega arith) (omega arith) (omega arith) t t y h).1 refl)
none_same (x ∷ hs) h (hold_more y s) all (in_other p) = none_same hs h s (λ k lt. all (suc k) (omega arith)) p

is_member : (ps hs : List TypeEntry) (e : TypeEntry) (k : ℕ) → k < length hs → MemberSame ps hs e k true → SaysIn ps hs e true
is_member ps hs e k lt d t ms h s = (λ x. one_same hs k lt h s d, λ x. refl)

no_member : (ps hs : List TypeEntry) (e : TypeEntry) → ((k : ℕ) → k < length hs → MemberSame ps hs e k false) → SaysIn ps hs e false
no_member ps hs e all t ms h s = (λ x. absurd (both_ways false refl x), λ x. absurd (none_same hs h s all x))

-- one of the members is the type e, or each of them is another
abbrev pub Sought : List TypeEntry → List TypeEntry → TypeEntry → Bool → Type 0
Sought ps hs e true = (k : ℕ) × (k < length hs) × MemberSame ps hs e k true
Sought ps hs e false = (k : ℕ) → k < length hs → MemberSame ps hs e k false

pub sought : (ps hs : List TypeEntry) (e : TypeEntry) (r : Bool) → Sought ps hs e r → SaysIn ps hs e r
sought ps hs e true f = is_member ps hs e f.0 f.1 f.2
sought ps hs e false f = no_member ps hs e f
