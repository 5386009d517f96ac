-- This file proves how the reports that are written and those that are left make up a listing.
-- Main lemma: `progress_more`.
use Rattle.std.proofs.Common.{◌≡◌, ℕ, zero, suc, ◌+◌, ◌-◌, ◌^◌, ◌<◌, List, [], ◌∷◌, ◌++◌, length}
use Rattle.std.proofs.Common.{take, drop, min, Option, Some, None, refl, ap, sym, ◌∙◌, arith}
use Rattle.std.proofs.Common.{append_assoc, append-nil, length-append, inl, inr, subst}
use Rattle.std.proofs.lemmas.List.Concat.{flat_map-append}
use Rattle.std.proofs.lemmas.List.{take-append-drop}
use Rattle.std.specs.Io.KnownBytes.{Appends}
use Rattle.std.proofs.KnownBytes.{Appends-trans}
use Rattle.ptb_text.specs.Device.{TakesSome}
use Rattle.ptb_answers.specs.Outcome.{Answers, Outcome, IsReader}
use Rattle.ptb_machine.specs.RunTree.{Front, At, End, IsNextRun, IsLast, runs_after, runs_left}
use Rattle.ptb_explore.specs.Listing.{less_one, text, front_after, count_of, WritesList, WritesSome, WritesInto}
use Rattle.ptb_explore.proofs.NextRuns.{left_next, left_none, none_left}

after_push : (f : Front) (done : List Answers) (a : Answers) → front_after f (done ++ a ∷ []) ≡ At a
after_push f [] a = refl
after_push f (b ∷ done) a = after_push (At b) done a

take_one : (n : ℕ) (a : Answers) (xs : List Answers) → (n ≡ 0 → ⊥) → take n (a ∷ xs) ≡ a ∷ take (n - 1) xs
take_one zero a xs h = absurd (h refl)
take_one (suc n) a xs h = let e : suc n - 1 ≡ n = omega arith in rw e refl

take_none : (n : ℕ) (xs : List Answers) → (n ≡ 0 → ⊥) → take n xs ≡ [] → xs ≡ []
take_none zero xs h none = absurd (h refl)
take_none (suc n) [] h none = refl
take_none (suc n) (x ∷ xs) h none = absurd cc

module _ {A W : Type 0} (play : Answers → Outcome A W) (most : ℕ) (reads : IsReader play most) (under : Answers) where
  left_more : (front : Front) (remaining : Option ℕ) (a : Answers) → (remaining ≡ Some 0 → ⊥)
      → IsNextRun play under front a
      → runs_left play most under front remaining ≡ a ∷ runs_left play most under (At a) (less_one remaining)
  left_more front None a h n = left_next play most reads under front a n
  left_more front (Some k) a h n = ap (take k) (left_next play most reads under front a n)
      ∙ take_one k a (runs_after play most under (At a)) (λ e. h (ap Some e))

  left_last : (front : Front) (remaining : Option ℕ) → IsLast play under front
      → runs_left play most under front remaining ≡ []
  left_last front None h = left_none play most reads under front h
  left_last front (Some zero) h = refl
  left_last front (Some (suc k)) h = ap (take (suc k)) (left_none play most reads under front h)

  -- where a run is left and one more is wanted, the list isn't empty
  left_some : (front : Front) (remaining : Option ℕ) → (remaining ≡ Some 0 → ⊥) → (IsLast play under front → ⊥)
      → runs_left play most under front remaining ≡ [] → ⊥
  left_some front None h more none = more (none_left play most reads under front none)
  left_some front (Some n) h more none = more
      (none_left play most reads under front (take_none n (runs_after play most under front) (λ e. h (ap Some e)) none))

  pub fewer_left : (front : Front) (a : Answers) → IsNextRun play under front a
      → length (runs_after play most under (At a)) < length (runs_after play most under front)
  fewer_left front a n = omega (arith, ap length (left_next play most reads under front a n))

-- some reports are written, and with what is left they are the list
pub record ListingProgress {A W : Type 0} (play : Answers → Outcome A W) (most : ℕ) (under : Answers) (report : Answers
    → List ℕ) (list : List Answers) (start front : Front) (remaining : Option ℕ) (old new : Option (List ℕ))
    (n : ℕ) : Type 0 where
  pub done : List Answers
  pub split : list ≡ done ++ runs_left play most under front remaining
  pub written : Appends old new (text report done)
  pub front_is : front ≡ front_after start done
  pub count : n ≡ count_of done

module _ {A W : Type 0} (play : Answers → Outcome A W) (most : ℕ) (reads : IsReader play most) (under : Answers)
    (report : Answers → List ℕ) where
  text_push : (done : List Answers) (a : Answers) → text report done ++ report a ≡ text report (done ++ a ∷ [])
  text_push done a =
      sym (flat_map-append report done (a ∷ []) ∙ ap (λ x. text report done ++ x) (append-nil (report a)))

  module _ (list : List Answers) (start : Front) (old : Option (List ℕ)) where
    pub progress_more : (front f' : Front) (remaining : Option ℕ) (new new' : Option (List ℕ)) (n n' : ℕ) (a : Answers)
        → ListingProgress play most under report list start front remaining old new n → (remaining ≡ Some 0 → ⊥)
        → IsNextRun play under front a → f' ≡ At a → Appends new new' (report a) → n' ≡ min (n + 1) (2 ^ 64 - 1)
        → ListingProgress play most under report list start f' (less_one remaining) old new' n'
    progress_more front f' remaining new new' n n' a p h next e w c = record {
      done = p.done ++ a ∷ [];
      split = p.split ∙ ap (λ x. p.done ++ x) (left_more play most reads under front remaining a h next)
          ∙ sym (append_assoc p.done (a ∷ []) (runs_left play most under (At a) (less_one remaining)))
          ∙ ap (λ x. (p.done ++ a ∷ []) ++ runs_left play most under x (less_one remaining)) (sym e);
      written = subst (Appends old new') (text_push p.done a)
          (Appends-trans old new new' (text report p.done) (report a) p.written w);
      front_is = e ∙ sym (after_push start p.done a);
      count = let l = length-append p.done (a ∷ []) in let k = p.count in omega (arith, l, k, c);
    }

    pub progress_whole : (front : Front) (new : Option (List ℕ)) (n : ℕ)
        → ListingProgress play most under report list start front (Some 0) old new n
        → WritesList play under report list start front old new n
    progress_whole front new n p =
        let e : list ≡ p.done = p.split ∙ append-nil p.done in
        record {
          bytes = subst (λ x. Appends old new (text report x)) (sym e) p.written;
          count = p.count ∙ ap count_of (sym e);
          front = inl (p.front_is ∙ ap (front_after start) (sym e));
        }

    pub progress_last : (front : Front) (remaining : Option ℕ) (new : Option (List ℕ)) (n : ℕ)
        → ListingProgress play most under report list start front remaining old new n → IsLast play under front
        → WritesList play under report list start End old new n
    progress_last front remaining new n p last =
        let e : list ≡ p.done = p.split ∙ ap (λ x. p.done ++ x) (left_last play most reads under front remaining last)
        ∙ append-nil p.done in
        let s : front ≡ front_after start list = p.front_is ∙ ap (front_after start) (sym e) in
        record {
          bytes = subst (λ x. Appends old new (text report x)) (sym e) p.written;
          count = p.count ∙ ap count_of (sym e);
          front = inr (refl, rw s at last);
        }

    pub progress_some : (front : Front) (remaining : Option ℕ) (new : Option (List ℕ)) (n : ℕ)
        → ListingProgress play most under report list start front remaining old new n → (remaining ≡ Some 0 → ⊥)
        → (IsLast play under front → ⊥)
        → WritesSome play under report list start front old new n
    progress_some front remaining new n p h more =
        record {
          prefix = p.done;
          rest = runs_left play most under front remaining;
          split = p.split;
          some_left = left_some play most reads under front remaining h more;
          bytes = p.written;
          count = p.count;
          front = p.front_is;
        }

    pub progress_into : (front : Front) (remaining : Option ℕ) (new new' : Option (List ℕ)) (n : ℕ) (a : Answers)
        → ListingProgress play most under report list start front remaining old new n → (remaining ≡ Some 0 → ⊥)
        → IsNextRun play under front a → TakesSome new new' (report a)
        → WritesInto play under report list start (At a) old new' n
    progress_into front remaining new new' n a p h next part = record {
      prefix = p.done;
      at = a;
      rest = runs_left play most under (At a) (less_one remaining);
      split = p.split ∙ ap (λ x. p.done ++ x) (left_more play most reads under front remaining a h next);
      part = take part.0 (report a);
      remainder = drop part.0 (report a);
      cut = sym (take-append-drop part.0 (report a));
      bytes = Appends-trans old new new' (text report p.done) (take part.0 (report a)) p.written part.2;
      count = p.count;
      front = refl;
    }
