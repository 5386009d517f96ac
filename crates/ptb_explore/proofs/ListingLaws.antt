-- This file proves what a listing has left, and that one that begins after a run resumes where one that ended with it
-- stopped.
-- Main lemma: `listing_laws`.
use Rattle.std.proofs.Common.{◌≡◌, ℕ, List, [], ◌∷◌, ◌++◌, Bool, true, false, ◌↔◌, inl, refl, sym}
use Rattle.std.proofs.Common.{ap, ◌∙◌, append_assoc}
use Rattle.std.specs.Prelude.{Contains}
use Rattle.std.specs.List.{filter, AllByRecursion}
use Rattle.std.proofs.lemmas.Bool.{false_from_ne_true}
use Rattle.ptb_answers.specs.Outcome.{Answers, Outcome, IsReader}
use Rattle.ptb_explore.specs.Laws.{ListingLaws}
use Rattle.ptb_explore.specs.Listing.{text}
use Rattle.ptb_machine.specs.RunTree.{Front, At, IsRun, IsRising, tree, is_left, is_before, Before, runs_after}
use Rattle.ptb_explore.proofs.Lists.{all_at, contained_in, filter_in, in_contained, in_filter, in_right, rising_filter}
use Rattle.ptb_explore.proofs.Order.{before_self, before_not_back}
use Rattle.ptb_explore.proofs.Tree.{tree_rises, tree_runs}

filter-all : (p : Answers → Bool) (xs : List Answers) → AllByRecursion (λ b. p b ≡ true) xs → filter p xs ≡ xs
filter-all p [] h = refl
filter-all p (x ∷ xs) h = rw h.0 (ap (λ s. x ∷ s) (filter-all p xs h.1))

-- in a rising list, what is after a member comes after it
filter-following : (xs ys : List Answers) (r : Answers) → IsRising (xs ++ r ∷ ys)
    → filter (is_before r) (xs ++ r ∷ ys) ≡ ys
filter-following [] ys r up =
    let self : is_before r r ≡ false = false_from_ne_true _ (λ t. before_self r t) in
    rw self (filter-all (is_before r) ys up.0)
filter-following (x ∷ xs) ys r up =
    let below : Before x r = all_at (Before x) (xs ++ r ∷ ys) r up.0 (in_right r xs (r ∷ ys) (inl refl)) in
    let back : is_before r x ≡ false = false_from_ne_true _ (λ t. before_not_back x r below t) in
    rw back (filter-following xs ys r up.1)

text-append : (report : Answers → List ℕ) (xs ys : List Answers)
    → text report (xs ++ ys) ≡ text report xs ++ text report ys
text-append report [] ys = refl
text-append report (x ∷ xs) ys = ap (λ s. report x ++ s) (text-append report xs ys)
    ∙ sym (append_assoc (report x) (text report xs) (text report ys))

module _ {A W : Type 0} (play : Answers → Outcome A W) (most : ℕ) (reads : IsReader play most) where
  following : (front back : List Answers) (r : Answers) → tree play most ≡ front ++ r ∷ back
      → runs_after play most [] (At r) ≡ back
  following front back r e = ap (filter (is_before r)) e
      ∙ filter-following front back r (rw e at (tree_rises play most reads))

  left : (under : Answers) (f : Front) (a : Answers)
      → Contains (runs_after play most under f) a ↔ (IsRun play a × (is_left under f a ≡ true))
  left under f a =
      let all = tree play most in
      let listed = runs_after play most under f in (
        λ c. let i = filter_in (is_left under f) a all (contained_in a listed c) in
            ((tree_runs play most reads a).0 i.0, i.1),
        λ h. in_contained a listed (in_filter (is_left under f) a all ((tree_runs play most reads a).1 h.0) h.1),
      )

  left_rises : (under : Answers) (f : Front) → IsRising (runs_after play most under f)
  left_rises under f = rising_filter (is_left under f) (tree play most) (tree_rises play most reads)

  pub listing_laws : ListingLaws play most
  listing_laws = record {
    following = following;
    whole_text = λ report front back r e.
        ap (λ s. text report (front ++ r ∷ []) ++ text report s) (following front back r e)
        ∙ sym (text-append report (front ++ r ∷ []) back)
        ∙ ap (text report) (append_assoc front (r ∷ []) back ∙ sym e);
    runs = left;
    order = left_rises;
  }
