-- This file proves the laws of samples, and how the reports that are written and those that are left make up a sample.
-- Main lemma: `sample_laws`.
use Rattle.std.proofs.Common.{◌≡◌, ℕ, zero, suc, ◌+◌, ◌-◌, ◌<◌, List, [], ◌∷◌, ◌++◌, length, take}
use Rattle.std.proofs.Common.{drop, Option, Err, refl, ap, sym, ◌∙◌, arith, append_assoc, append-nil}
use Rattle.std.proofs.Common.{length-append, inl, inr, subst}
use Rattle.std.proofs.lemmas.List.Concat.{flat_map-append}
use Rattle.std.proofs.lemmas.List.{take-append-drop}
use Rattle.std.specs.Io.KnownBytes.{Appends}
use Rattle.std.specs.List.{flat_map}
use Rattle.std.specs.Prelude.{Contains}
use Rattle.std.proofs.KnownBytes.{Appends-nil, Appends-trans}
use Rattle.rand_pcg.specs.Lcg.{Lcg}
use Rattle.ptb_text.specs.Device.{TakesSome}
use Rattle.ptb_text.specs.declared.device_fault.DeviceFault.{DeviceFault}
use Rattle.ptb_text.specs.declared.device_fault.DeviceFault.TheVariants as next
use Rattle.ptb_devices.specs.Screens.{IsScreenFault}
use Rattle.ptb_answers.specs.Outcome.{Answers, Outcome, IsReader, bounds}
use Rattle.ptb_answers.specs.Seeds.{drawn_from, generator_after}
use Rattle.ptb_answers.specs.DrawnAnswers.{IsDrawnFrom, answers_by, sampled_runs}
use Rattle.ptb_answers.proofs.PublicLemmas.{answers_by-drawn, drawn_alone, after_sum, drawn_append}
use Rattle.ptb_explore.specs.Listing.{fault_after, text}
use Rattle.ptb_machine.specs.RunTree.{IsRun}
use Rattle.ptb_explore.specs.Samples.{SampleLaws, WritesFirst, WritesPart, WritesRun, WritesSample, concatenated}
use Rattle.ptb_machine.proofs.PublicLemmas.{length-bounds}
use Rattle.ptb_explore.proofs.Lists.{IsIn, contained_in}

-- ---- laws

module _ {A W : Type 0} (play : Answers → Outcome A W) (most : ℕ) (reads : IsReader play most) where
  abbrev run_by : Lcg → Answers
  run_by g = answers_by most g play

  abbrev after_run : Lcg → Lcg
  after_run g = generator_after g (length (run_by g))

  sample_count : (g : Lcg) (n : ℕ) → length (sampled_runs most play g n) ≡ n
  sample_count g zero = refl
  sample_count g (suc n) = ap suc (sample_count (after_run g) n)

  sample_runs : (g : Lcg) (n : ℕ) (a : Answers) → Contains (sampled_runs most play g n) a → IsRun play a
  sample_runs g n a h = by_place g n a (contained_in a (sampled_runs most play g n) h) where
    by_place : (g : Lcg) (n : ℕ) (a : Answers) → IsIn a (sampled_runs most play g n) → IsRun play a
    by_place g zero a h = absurd h
    by_place g (suc n) a (inl is) = subst (IsRun play) (sym is) ((answers_by-drawn most g play reads).run)
    by_place g (suc n) a (inr later) = by_place (after_run g) n a later

  sample_first : (g : Lcg) (a : Answers) (n : ℕ) → IsDrawnFrom g play a
      → sampled_runs most play g (suc n) ≡ a ∷ sampled_runs most play (generator_after g (length a)) n
  sample_first g a n drawn = ap (λ (b : Answers). b ∷ sampled_runs most play (generator_after g (length b)) n)
      (sym (drawn_alone most g play a reads drawn))

  sample_words : (g : Lcg) (n : ℕ)
      → concatenated (sampled_runs most play g n) ≡ drawn_from g (flat_map (bounds play) (sampled_runs most play g n))
  sample_words g zero = refl
  sample_words g (suc n) =
      let a : Answers = run_by g in
      let others : List Answers = sampled_runs most play (after_run g) n in
      let size : length a ≡ length (bounds play a) = sym (length-bounds play [] a) in
      ap (λ (l : Answers). l ++ concatenated others) (answers_by-drawn most g play reads).drawn
      ∙ ap (λ (l : Answers). drawn_from g (bounds play a) ++ l) (sample_words (after_run g) n)
      ∙ ap (λ (k : ℕ). drawn_from g (bounds play a) ++ drawn_from (generator_after g k) (flat_map (bounds play) others))
      size
      ∙ sym (drawn_append g (bounds play a) (flat_map (bounds play) others))

  sample_more : (g : Lcg) (m n : ℕ)
      → sampled_runs most play g (m + n) ≡ sampled_runs most play g m ++ sampled_runs most play
      (generator_after g (length (concatenated (sampled_runs most play g m)))) n
  sample_more g zero n =
      let none : zero + n ≡ n = omega arith in
      ap (sampled_runs most play g) none
  sample_more g (suc m) n =
      let one : suc m + n ≡ suc (m + n) = omega arith in
      let others : List Answers = sampled_runs most play (after_run g) m in
      let used : length (run_by g ++ concatenated others) ≡ length (run_by g) + length (concatenated others) =
      length-append (run_by g) (concatenated others) in
      ap (sampled_runs most play g) one
      ∙ ap (λ (l : List Answers). run_by g ∷ l) (sample_more (after_run g) m n)
      ∙ ap (λ (h : Lcg). run_by g ∷ (others ++ sampled_runs most play h n))
      (sym (after_sum g (length (run_by g)) (length (concatenated others))) ∙ ap (generator_after g) (sym used))

  pub sample_laws : SampleLaws play most
  sample_laws = record {
    count = sample_count;
    runs = sample_runs;
    first = sample_first;
    words = sample_words;
    more = sample_more;
  }

-- ---- what is written

-- what ends the writing of a run's report is a fault of a screen
pub run_kind : (report : Answers → List ℕ) (a : Answers) (old new : Option (List ℕ)) (x : DeviceFault)
    → WritesRun report a old new (Err x) → IsScreenFault x
run_kind report a old new next.Write w = tt
run_kind report a old new next.Memory w = tt
run_kind report a old new next.Read w = absurd w
run_kind report a old new next.TooLong w = absurd w

-- some reports are written, and with what the generator draws for those that remain they are the sample
pub record Sampled {A W : Type 0} (play : Answers → Outcome A W) (most : ℕ) (report : Answers
    → List ℕ) (first : Lcg) (runs : ℕ) (g : Lcg) (remaining : ℕ) (old new : Option (List ℕ)) : Type 0 where
  pub done : List Answers
  pub split : sampled_runs most play first runs ≡ done ++ sampled_runs most play g remaining
  pub written : Appends old new (text report done)
  pub count : length done + remaining ≡ runs

module _ {A W : Type 0} (play : Answers → Outcome A W) (most : ℕ) (report : Answers
    → List ℕ) (first : Lcg) (runs : ℕ) (old : Option (List ℕ)) where
  text_push : (done : List Answers) (a : Answers) → text report done ++ report a ≡ text report (done ++ a ∷ [])
  text_push done a =
      sym (flat_map-append report done (a ∷ []) ∙ ap (λ x. text report done ++ x) (append-nil (report a)))

  module _ (g : Lcg) (new : Option (List ℕ)) where
    abbrev next_run : Answers
    next_run = answers_by most g play

    sampled_more : (remaining : ℕ) (h : Lcg) (new' : Option (List ℕ))
        → Sampled play most report first runs g (suc remaining) old new → h ≡ generator_after g (length next_run)
        → Appends new new' (report next_run)
        → Sampled play most report first runs h remaining old new'
    sampled_more remaining h new' p after w = record {
      done = p.done ++ next_run ∷ [];
      split = p.split ∙ sym
          (append_assoc p.done (next_run ∷ []) (sampled_runs most play (generator_after g (length next_run)) remaining))
          ∙ ap (λ (x : Lcg). (p.done ++ next_run ∷ []) ++ sampled_runs most play x remaining) (sym after);
      written = subst (Appends old new') (text_push p.done next_run)
          (Appends-trans old new new' (text report p.done) (report next_run) p.written w);
      count = let l = length-append p.done (next_run ∷ []) in let k = p.count in omega (arith, l, k);
    }

    some_left : (remaining : ℕ) → 0 < remaining → sampled_runs most play g remaining ≡ [] → ⊥
    some_left zero more none = absurd (omega (arith, more))
    some_left (suc remaining) more none = absurd cc

    sampled_some : (remaining n : ℕ) → 0 < remaining → Sampled play most report first runs g remaining old new
        → n ≡ runs - remaining → WritesFirst report (sampled_runs most play first runs) old new n
    sampled_some remaining n more p is = record {
      prefix = p.done;
      rest = sampled_runs most play g remaining;
      split = p.split;
      some_left = some_left remaining more;
      bytes = p.written;
      count = let k = p.count in omega (arith, is, k);
    }

    sampled_part : (remaining n : ℕ) (new' : Option (List ℕ)) → 0 < remaining
        → Sampled play most report first runs g remaining old new → n ≡ runs - remaining
        → TakesSome new new' (report next_run) → WritesPart report (sampled_runs most play first runs) old new' n
    sampled_part zero n new' more p is part = absurd (omega (arith, more))
    sampled_part (suc remaining) n new' more p is part = record {
      prefix = p.done;
      at = next_run;
      rest = sampled_runs most play (generator_after g (length next_run)) remaining;
      split = p.split;
      part = take part.0 (report next_run);
      remainder = drop part.0 (report next_run);
      cut = sym (take-append-drop part.0 (report next_run));
      bytes = Appends-trans old new new' (text report p.done) (take part.0 (report next_run)) p.written part.2;
      count = let k = p.count in omega (arith, is, k);
    }

    -- a fault ends the writing
    pub sampled_ends : (remaining n : ℕ) (new' : Option (List ℕ)) → 0 < remaining
        → Sampled play most report first runs g remaining old new → n ≡ runs - remaining → (x : DeviceFault)
        → WritesRun report next_run new new' (Err x)
        → WritesSample report (sampled_runs most play first runs) old new' (Err (fault_after x n))
    sampled_ends remaining n new' more p is next.Memory same =
        subst (λ (b : Option (List ℕ)). WritesFirst report (sampled_runs most play first runs) old b n) (sym same)
        (sampled_some remaining n more p is)
    sampled_ends remaining n new' more p is next.Write part = sampled_part remaining n new' more p is part
    sampled_ends remaining n new' more p is next.Read w = absurd w
    sampled_ends remaining n new' more p is next.TooLong w = absurd w

    -- one run fewer remains
    pub sampled_next : (remaining fewer : ℕ) (h : Lcg) (new' : Option (List ℕ)) → 0 < remaining → fewer ≡ remaining - 1
        → Sampled play most report first runs g remaining old new → h ≡ generator_after g (length next_run)
        → Appends new new' (report next_run)
        → Sampled play most report first runs h fewer old new'
    sampled_next zero fewer h new' more e p after w = absurd (omega (arith, more))
    sampled_next (suc remaining) fewer h new' more e p after w =
        let same : fewer ≡ remaining = omega (arith, e) in
        subst (λ (k : ℕ). Sampled play most report first runs h k old new') (sym same)
        (sampled_more remaining h new' p after w)

  -- where memory is refused before the first run, some run was to be sampled
  pub refused_at_first : (runs ≡ 0 → ⊥) → WritesFirst report (sampled_runs most play first runs) old old 0
  refused_at_first some = by_count runs some where
    by_count : (n : ℕ) → (n ≡ 0 → ⊥) → WritesFirst report (sampled_runs most play first n) old old 0
    by_count zero h = absurd (h refl)
    by_count (suc n) h = record {
      prefix = [];
      rest = sampled_runs most play first (suc n);
      split = refl;
      some_left = λ none. absurd cc;
      bytes = Appends-nil old;
      count = refl;
    }
