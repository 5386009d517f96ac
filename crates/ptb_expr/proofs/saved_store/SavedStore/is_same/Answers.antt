-- This file answers what is left to prove of saved stores that are compared.
use Rattle.std.proofs.Common.{◌≡◌, ◌≤◌, ◌+◌, ◌∙◌, length, sym, ap, rules}
use Rattle.std.specs.Prelude.{◌/◌, unsigned_abs}
use Rattle.std.proofs.lemmas.Bool.{true≢false}
use Rattle.std.proofs.lemmas.Bool.Decides.{Decides-int_eq}
use Rattle.std.proofs.lemmas.Slice.Eq.{slice_eq-Decides}
use Rattle.ptb_expr.specs.Store.{Cells}
use Rattle.ptb_expr.proofs.SavedValues.{same_elements, same_saved}
use Rattle.ptb_expr.proofs.saved_store.SavedStore.is_same.Goals as goal

pub returns-then-eq : goal.returns-then-eq
returns-then-eq c =
    let one = c.self.inside in
    let two = c.other.inside in
    let n = unsigned_abs one.size / 2 + 1 in
    let size : one.size ≡ two.size = search (rules, c.if-other-self.false) in
    let values : one.values ≡ two.values = (slice_eq-Decides Decides-int_eq _ _ _ c.eq.ensures).0 c.if-eq.true in
    let mine : length c.deref.result.now ≤ n = rw c.deref.ensures.len c.self.invariant.2 in
    let theirs : length c.deref-then-eq.result.now ≤ n = rw (c.deref-then-eq.ensures.len, size) c.other.invariant.2 in
    let both = rw (c.deref.ensures.value, c.deref-then-eq.ensures.value) at
    (c.is_same_with_zeros.ensures n mine theirs) in (
      λ same. sym c.self.view_is ∙ same_saved one.size two.size one.values two.values one.elements.items
          two.elements.items size values (both.0 same) ∙ c.other.view_is,
      λ same. both.1 (same_elements one.size two.size one.values two.values one.elements.items two.elements.items size
          (c.self.view_is ∙ same ∙ sym c.other.view_is)),
    )

pub returns-else-eq : goal.returns-else-eq
returns-else-eq c = (
  λ same. absurd (true≢false (sym same ∙ c.if-eq.false)),
  λ same. (slice_eq-Decides Decides-int_eq _ _ _ c.eq.ensures).1
      (ap (λ (cells : Cells). cells.values) (c.self.view_is ∙ same ∙ sym c.other.view_is)),
)
