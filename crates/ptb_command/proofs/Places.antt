-- This file proves which byte place stands for which index among the commands of a statement.
-- Main lemma: `start_there`.
use Rattle.std.proofs.Common.{◌≡◌, ℕ, zero, suc, ◌+◌, Bool, true, false, List, [], ◌∷◌, drop}
use Rattle.std.proofs.Common.{slice_get, Option, Some, None, refl, sym, ap, subst, ◌∙◌, arith}
use Rattle.std.proofs.Common.{add-one}
use Rattle.std.specs.Option.{option_and_then}
use Rattle.ptb_text.specs.Words.{is_over}
use Rattle.ptb_text.specs.FoundParts.{FindingLaws}
use Rattle.ptb_expr.specs.Reading.{Reading, Whole, Malformed, item_of}
use Rattle.ptb_expr.specs.Spells.{SpellingLaws}
use Rattle.ptb_command.specs.Items.{Round, Last, Onward, with_others, items}
use Rattle.ptb_command.specs.Commands.{Part, Command, command_at, next_start, command_and}
use Rattle.ptb_command.specs.Commands.{after_command, command_unless, command_round, commands_from}
use Rattle.ptb_command.specs.Commands.{commands}
use Rattle.ptb_command.specs.Places.{IsSamePlace, next_place, start_of_command, commands_after}
use Rattle.ptb_command.proofs.Sequences.{items_by_round}
use Rattle.ptb_command.proofs.CommandOrder.{RoundOn, commands_on, commands_advance}
use Rattle.ptb_command.proofs.ReadItems.{item_in_front}

-- ---- indexes

index_there : {X : Type 0} (xs ys : List X) (x : X) (k : ℕ) → drop k xs ≡ x ∷ ys → slice_get xs k ≡ Some x
index_there [] ys x zero e = absurd cc
index_there [] ys x (suc k) e = absurd cc
index_there (y ∷ xs) ys x zero e = let same : y ≡ x = cc in ap Some same
index_there (y ∷ xs) ys x (suc k) e = index_there xs ys x k e

index_none : {X : Type 0} (xs : List X) (k : ℕ) → drop k xs ≡ [] → slice_get xs k ≡ None
index_none [] k e = refl
index_none (y ∷ xs) zero e = absurd cc
index_none (y ∷ xs) (suc k) e = index_none xs k e

drop_there : {X : Type 0} (xs ys : List X) (x : X) (k : ℕ) → drop k xs ≡ x ∷ ys → drop (suc k) xs ≡ ys
drop_there [] ys x zero e = absurd cc
drop_there [] ys x (suc k) e = absurd cc
drop_there (y ∷ xs) ys x zero e = cc
drop_there (y ∷ xs) ys x (suc k) e = drop_there xs ys x k e

-- where there is one there is one before
one_before : {X : Type 0} (xs : List X) (k : ℕ) (x : X) → slice_get xs (suc k) ≡ Some x
    → (y : X) × (slice_get xs k ≡ Some y)
one_before [] k x e = absurd cc
one_before (y ∷ xs) zero x e = (y, refl)
one_before (y ∷ xs) (suc k) x e = one_before xs k x e

-- ---- rounds

module _ (t : List ℕ) where
  -- a round that isn't over reads one command, and continues or is the last
  data Reads (c : Command) (r : Round Command) : Type 0 where
    Ends : commands_after t r ≡ c ∷ [] → Reads c r
    Goes : (j : ℕ) → r ≡ Onward c j → Reads c r

  start_reads : (c : Command) (e : ℕ) (o : Option ℕ) → Reads c (command_and c e o)
  start_reads c e (Some j) = Goes j refl
  start_reads c e None = Ends refl

  command_reads : (c : Command) (r : Reading (List Part)) → Reads c (after_command t c r)
  command_reads c (Whole parts e) = start_reads c e (next_start c.kind t e)
  command_reads c (Malformed parts) = Ends refl

  round_over : (b : ℕ) → is_over t b ≡ true → command_round t b ≡ Last (Whole [] b)
  unfolding command_round
  round_over b h = ap (command_unless t b) h

  round_reads : (b : ℕ) → is_over t b ≡ false → Reads (command_at t b) (command_round t b)
  unfolding command_round
  round_reads b h = subst (λ v. Reads (command_at t b) (command_unless t b v)) (sym h)
      (command_reads (command_at t b) (command_at t b).parts)

module _ (finding : FindingLaws) (spelling : SpellingLaws) (t : List ℕ) where
  pub commands_by_round : (i : ℕ) → commands_from t i ≡ commands_after t (command_round t i)
  unfolding commands_from
  commands_by_round i = ap item_of (items_by_round t (command_round t) (commands_advance finding spelling t) i)
      ∙ by_round (command_round t i)
    where
      by_round : (r : Round Command) → item_of (with_others (items t (command_round t)) r) ≡ commands_after t r
      by_round (Last r) = refl
      by_round (Onward c j) = item_in_front c (items t (command_round t) j)

  pub commands_over : (b : ℕ) → is_over t b ≡ true → commands_from t b ≡ []
  commands_over b h = commands_by_round b ∙ ap (commands_after t) (round_over t b h)

  -- where the text isn't over there is a command, and others may follow
  pub commands_there : (b : ℕ) → is_over t b ≡ false → (cs : List Command) × (commands_from t b ≡ command_at t b ∷ cs)
  commands_there b h = by_reads (command_round t b) (round_reads t b h) (commands_by_round b)
    where
      by_reads : (r : Round Command) → Reads t (command_at t b) r → commands_from t b ≡ commands_after t r
          → (cs : List Command) × (commands_from t b ≡ command_at t b ∷ cs)
      by_reads r (Ends e) h = ([], h ∙ e)
      by_reads r (Goes j e) h = (commands_from t j, h ∙ ap (commands_after t) e)

  -- ---- places

  pub at_first : IsSamePlace t 0 0
  at_first = record { left = refl; within = omega arith }

  pub at_there : (k b : ℕ) → IsSamePlace t k b → is_over t b ≡ false → slice_get (commands t) k ≡ Some (command_at t b)
  at_there k b at h = let there = commands_there b h in
      index_there (commands t) there.0 (command_at t b) k (at.left ∙ there.1)

  pub at_none : (k b : ℕ) → IsSamePlace t k b → is_over t b ≡ true → slice_get (commands t) k ≡ None
  at_none k b at h = index_none (commands t) k (at.left ∙ commands_over b h)

  at_suc : (k b j : ℕ) (c : Command) → IsSamePlace t k b → command_round t b ≡ Onward c j → IsSamePlace t (suc k) j
  at_suc k b j c at e = record {
    left = drop_there (commands t) (commands_from t j) c k (at.left ∙ commands_by_round b ∙ ap (commands_after t) e);
    within = ((commands_advance finding spelling t).ahead b j c e).within;
  }

  pub at_next : (k b j : ℕ) (c : Command) → IsSamePlace t k b → command_round t b ≡ Onward c j → IsSamePlace t (k + 1) j
  at_next k b j c at e = rw add-one (at_suc k b j c at e)

  pub at_last : (k b e : ℕ) (c : Command) → IsSamePlace t k b → command_round t b ≡ Last (Whole (c ∷ []) e)
      → is_over t e ≡ true
      → IsSamePlace t (k + 1) e
  at_last k b e c at r over = rw add-one (record {
    left = drop_there (commands t) [] c k (at.left ∙ commands_by_round b ∙ ap (commands_after t) r)
        ∙ sym (commands_over e over);
    within = (subst (RoundOn t b) r (commands_on finding spelling t b)).within at.within;
  })

  -- ---- where the commands begin

  from_next : (r : Round Command) (j : ℕ) → next_place r ≡ Some j → (c : Command) × (r ≡ Onward c j)
  from_next (Last r) j e = absurd cc
  from_next (Onward c i) j e = let same : i ≡ j = cc in (c, ap (Onward c) same)

  pub begins_at : (k b : ℕ) → start_of_command t k ≡ Some b → IsSamePlace t k b
  unfolding start_of_command
  begins_at zero b e = let same : 0 ≡ b = cc in subst (IsSamePlace t 0) same at_first
  begins_at (suc k) b e = by_begin (start_of_command t k) refl (λ i h. begins_at k i h) e
    where
      by_begin : (o : Option ℕ) → start_of_command t k ≡ o → ((i : ℕ) → start_of_command t k ≡ Some i
          → IsSamePlace t k i)
          → option_and_then (λ i. next_place (command_round t i)) o ≡ Some b → IsSamePlace t (suc k) b
      by_begin None h at e = absurd cc
      by_begin (Some i) h at e = let r = from_next (command_round t i) b e in at_suc k i b r.0 (at i h) r.1

  -- a command at an index begins at the byte place of this index
  here : (k b : ℕ) (c : Command) → start_of_command t k ≡ Some b → slice_get (commands t) k ≡ Some c
      → (b : ℕ) × (start_of_command t k ≡ Some b) × (is_over t b ≡ false) × (command_at t b ≡ c)
  here k b c h e = by_over (is_over t b) refl
    where
      by_over : (v : Bool) → is_over t b ≡ v
          → (b : ℕ) × (start_of_command t k ≡ Some b) × (is_over t b ≡ false) × (command_at t b ≡ c)
      by_over true v = let none = at_none k b (begins_at k b h) v in absurd cc
      by_over false v = let some = at_there k b (begins_at k b h) v in let same : Some (command_at t b) ≡ Some c = cc in
          (b, h, v, cc)

  start_suc : (k b j : ℕ) (c : Command) → start_of_command t k ≡ Some b → command_round t b ≡ Onward c j
      → start_of_command t (suc k) ≡ Some j
  unfolding start_of_command
  start_suc k b j c h e = ap (λ o. option_and_then (λ i. next_place (command_round t i)) o) h ∙ ap next_place e

  -- each command begins somewhere
  pub start_there : (k : ℕ) (c : Command) → slice_get (commands t) k ≡ Some c
      → (b : ℕ) × (start_of_command t k ≡ Some b) × (is_over t b ≡ false) × (command_at t b ≡ c)
  unfolding start_of_command
  start_there zero c e = here 0 0 c refl e
  start_there (suc k) c e =
      let before = one_before (commands t) k c e in
      let there = start_there k before.0 before.1 in
      by_reads there.0 there.1 (round_reads t there.0 there.2)
    where
      by_reads : (b : ℕ) → start_of_command t k ≡ Some b → Reads t (command_at t b) (command_round t b)
          → (b : ℕ) × (start_of_command t (suc k) ≡ Some b) × (is_over t b ≡ false) × (command_at t b ≡ c)
      by_reads b h (Goes j r) = here (suc k) j c (start_suc k b j (command_at t b) h r) e
      by_reads b h (Ends r) =
          let at = begins_at k b h in
          let none = index_none (commands t) (suc k)
          (drop_there (commands t) [] (command_at t b) k (at.left ∙ commands_by_round b ∙ r)) in
          absurd cc
