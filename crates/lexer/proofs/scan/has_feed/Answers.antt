-- The bytes between two places: those of the sheet from the first on and before the second. Assumes nothing.
use Rattle.std.proofs.Common.{◌≡◌, ℕ, ◌+◌, ◌-◌, ◌<◌, min, List, length, take, get_or, sym, ap, ◌∙◌, get_or-drop, get_or-take, length-drop, length-take, arith}
use Rattle.std.specs.Cmp.{unsigned_Decides}
use Rattle.std.proofs.lemmas.Grind.{common_steps, get_or_default_zero}
use Rattle.std.proofs.lemmas.List.{get_or_past}
use Rattle.std.proofs.lemmas.List.Elements.{contains_decides}
use Rattle.lexer.proofs.scan.has_feed.Goals as goal

inside : (xs : List ℕ) (i : ℕ) → get_or xs i 0 ≡ 10 → i < length xs
inside xs i e = grind (arith, common_steps, e, get_or_past xs i 0)

pub returns : goal.returns
returns c =
    let sheet = c.args.sheet.now in
    let from = c.args.from in
    let gap = c.after.result.now in
    let m = c.min.result in
    let long : length gap ≡ min m (length sheet) - from = ap length c.after.ensures ∙ length-drop from (take m sheet) ∙ ap (λ n. n - from) (length-take m sheet) in
    let read : (k : ℕ) → k < length gap → get_or gap k 0 ≡ get_or sheet (from + k) 0 =
    λ k l. ap (λ xs. get_or xs k 0) c.after.ensures ∙ get_or-drop from (take m sheet) k 0 ∙ get_or-take m sheet (from + k) 0 (omega (arith, long, l)) in
    let told = contains_decides _ unsigned_Decides gap 10 c.contains.result c.contains.ensures.cases in (
      λ t. let f = told.0 t in (from + f.0, omega arith, omega (arith, long, c.min.ensures, f.1), sym (read f.0 f.1) ∙ f.2 0),
      λ h. let k = h.0 - from in
          let same : from + k ≡ h.0 = omega (arith, h.1) in
          let low : k < length gap = omega (arith, long, c.min.ensures, h.1, h.2, inside sheet h.0 h.3) in
          told.1 (k, low, λ d. get_or_default_zero gap k d low ∙ read k low ∙ ap (λ i. get_or sheet i 0) same ∙ h.3),
    )
