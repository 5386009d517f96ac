-- This file answers what is left to prove of values that are taken over.
use Rattle.std.proofs.Common.{rules, ◌≡◌, length, refl}
use Rattle.std.proofs.Math.Nat.{le-max_left, le-max_right}
use Rattle.std.proofs.lemmas.List.{with_items_is}
use Rattle.std.specs.Vec.{with_items}
use Rattle.ptb_expr.proofs.Zeros.{zeros_copied}
use Rattle.ptb_expr.proofs.store.Store.copy_from.Goals as goal

-- both stores have the same SIZE
same_size : (c : goal.After-self-4-1) → c.self.inside.size ≡ c.other.inside.size
same_size c = search (rules, c.if-self-other.false)

-- and so as many elements
same_length : (c : goal.After-self-4-1) → c.self.inside.elements.len ≡ c.other.inside.elements.len
same_length c = rw (c.self.invariant.2, c.other.invariant.2, same_size c) refl

-- the elements are those of the other store then
taken_over : (c : goal.After-self-4-1)
    → (with_items c.self.inside.elements c.copy_front.new.values).items ≡ c.other.inside.elements.items
taken_over c =
    let mine : length c.self.inside.elements.items ≡ c.self.inside.elements.len =
    rw c.deref_mut.ensures.value at c.deref_mut.ensures.len in
    let theirs : length c.other.inside.elements.items ≡ c.other.inside.elements.len =
    rw c.deref.ensures.value at c.deref.ensures.len in
    let all : c.copy_front.new.values ≡ c.other.inside.elements.items =
    rw (c.copy_front.ensures, c.deref.ensures.value, c.deref_mut.ensures.value, c.max-used.ensures)
    (zeros_copied _ _ _ _ _ (le-max_left _ _) (le-max_right _ _) c.self.invariant.4 c.other.invariant.4
    (rw (mine, theirs) (same_length c))) in
    rw (with_items_is c.self.inside.elements c.copy_front.new.values (rw (all, theirs, same_length c) refl)) all

pub invariant_of-self-2 : goal.invariant_of-self-2
invariant_of-self-2 c = (
  c.other.invariant.0,
  c.self.invariant.1,
  c.self.invariant.2,
  rw (same_length c) c.other.invariant.3,
  rw (taken_over c) c.other.invariant.4,
  c.self.invariant.5,
)

pub returns-clause-ok : goal.returns-clause-ok
returns-clause-ok c = rw (taken_over c, same_size c) c.other.view_is
