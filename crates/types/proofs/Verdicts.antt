-- The table of kinds: each entry is the verdict, and the verdict says what is so of the types. Assumes nothing.
use Rattle.std.proofs.Common.{◌≡◌, ℕ, zero, suc, ◌<◌, Bool, true, ◌&&◌, eqb, List as Listing, [], ◌∷◌, length, get_or, sym, refl, ap, ◌∙◌, subst, ap₂, le_of_suc-le-suc, not-suc-le-zero, lit<}
use Rattle.std.proofs.lemmas.Bool.{and_parts, eqb-true}
use Rattle.types.specs.declared.kinds.Row.{Row}
use Rattle.types.specs.declared.kinds.Kind.{Kind}
use Rattle.types.specs.declared.kinds.Kind.TheVariants.{Number, NumberLiteral, String, StringLiteral, Boolean, True, False, Undefined, Null, Function, Pair, List}
use Rattle.types.specs.declared.kinds.Verdict.{Verdict}
use Rattle.types.specs.declared.kinds.Verdict.TheVariants.{Meet, Never, ByParts}
use Rattle.types.specs.Kinds.{rank, ◌isKind◌, verdict, cell_at, Right}

-- the kinds in rank order, and a test at each of them
abbrev kinds : Listing Kind
kinds = Number ∷ NumberLiteral ∷ String ∷ StringLiteral ∷ Boolean ∷ True ∷ False ∷ Undefined ∷ Null ∷ Function ∷ Pair ∷ List ∷ []

abbrev every : (Kind → Bool) → Listing Kind → Bool
every f [] = true
every f (k ∷ ks) = f k && every f ks

every_at : (f : Kind → Bool) (ks : Listing Kind) → every f ks ≡ true → (n : ℕ) → n < length ks → f (get_or ks n Number) ≡ true
every_at f [] t n h = absurd (not-suc-le-zero h)
every_at f (k ∷ ks) t zero h = (and_parts (f k) (every f ks) t).0
every_at f (k ∷ ks) t (suc n) h = every_at f ks (and_parts (f k) (every f ks) t).1 n (le_of_suc-le-suc h)

rank_below : (k : Kind) → rank k < 12
rank_below Number = lit< tt
rank_below NumberLiteral = lit< tt
rank_below String = lit< tt
rank_below StringLiteral = lit< tt
rank_below Boolean = lit< tt
rank_below True = lit< tt
rank_below False = lit< tt
rank_below Undefined = lit< tt
rank_below Null = lit< tt
rank_below Function = lit< tt
rank_below Pair = lit< tt
rank_below List = lit< tt

at_rank : (k : Kind) → get_or kinds (rank k) Number ≡ k
at_rank Number = refl
at_rank NumberLiteral = refl
at_rank String = refl
at_rank StringLiteral = refl
at_rank Boolean = refl
at_rank True = refl
at_rank False = refl
at_rank Undefined = refl
at_rank Null = refl
at_rank Function = refl
at_rank Pair = refl
at_rank List = refl

pub at_each : (f : Kind → Bool) → every f kinds ≡ true → (k : Kind) → f k ≡ true
at_each f t k = subst (λ (x : Kind). f x ≡ true) (at_rank k) (every_at f kinds t (rank k) (rank_below k))

abbrev code : Verdict → ℕ
code Meet = 0
code Never = 1
code ByParts = 2

abbrev decode : ℕ → Verdict
decode zero = Meet
decode (suc zero) = Never
decode (suc (suc n)) = ByParts

decode_code : (v : Verdict) → decode (code v) ≡ v
decode_code Meet = refl
decode_code Never = refl
decode_code ByParts = refl

-- each entry of the table is the verdict on its two kinds
abbrev pub test : Listing Row → Bool
test rows = every (λ a. every (λ b. eqb (code (cell_at rows (rank a) (rank b))) (code (verdict a b))) kinds) kinds

pub right_all : (rows : Listing Row) → test rows ≡ true → Right rows
unfolding Right
right_all rows t a b =
    let same = eqb-true _ _ (at_each (λ b. eqb (code (cell_at rows (rank a) (rank b))) (code (verdict a b))) (at_each (λ a. every (λ b. eqb (code (cell_at rows (rank a) (rank b))) (code (verdict a b))) kinds) t a) b) in
    sym (decode_code (cell_at rows (rank a) (rank b))) ∙ ap decode same ∙ decode_code (verdict a b)

pub right_at : (rows : Listing Row) → Right rows → (a b : Kind) (m n : ℕ) → m ≡ rank a → n ≡ rank b → cell_at rows m n ≡ verdict a b
unfolding Right
right_at rows r a b m n p q = ap₂ (cell_at rows) p q ∙ r a b

pub same_rank : (k l : Kind) → (k isKind l) ≡ true → k ≡ l
same_rank k l t = sym (at_rank k) ∙ ap (λ n. get_or kinds n Number) (eqb-true (rank k) (rank l) t) ∙ at_rank l
