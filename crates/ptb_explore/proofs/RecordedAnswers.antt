-- This file proves how many answers a recorder has and has given, and with which bounds.
-- Main lemma: `whole_bounds`.
use Rattle.std.proofs.Common.{◌≡◌, ◌∙◌, ap, sym, arith, List, ℕ, [], ◌<◌, ◌≤◌, get_or, length, take, vec_len}
use Rattle.std.specs.Prelude.{ℤ, slice_index_or}
use Rattle.std.proofs.lemmas.List.{get_or-take, length-take-le, take-map}
use Rattle.std.proofs.Math.Seq.{take-length}
use Rattle.ptb_answers.specs.declared.asked.Asked.{Asked}
use Rattle.ptb_answers.specs.AskedQuestions.{answers_in, bounds_in}
use Rattle.ptb_explore.specs.declared.recorder.Recorder.{Recorder}
use Rattle.ptb_explore.specs.Plans.{IsFresh}
use Rattle.ptb_explore.specs.Recorders.{given_bounds, recorded}
use Rattle.ptb_explore.proofs.Mismatches.{take_twice}
use Rattle.ptb_explore.proofs.AskedLists.{bound_at, length-answers_in, length-bounds_in}

pub recorded_len : (r : Recorder) → vec_len r.asked ≡ length (recorded r)
recorded_len r = r.asked.ok.0 ∙ sym (length-answers_in r.asked.items)

pub given_len : (r : Recorder) → r.given ≡ length (given_bounds r)
given_len r =
    sym (length-bounds_in (take r.given r.asked.items) ∙ length-take-le r.given r.asked.items
    (omega (arith, r.bounded, r.asked.ok.0)))

pub fresh_from : (r : Recorder) → r.given ≡ 0 → r.planned ≡ vec_len r.asked → IsFresh r
fresh_from r none all = record { none_given = none; all_planned = all }

pub fresh_bounds : (r : Recorder) → IsFresh r → given_bounds r ≡ []
fresh_bounds r f = ap (λ n. bounds_in (take n r.asked.items)) f.none_given

-- where all were given, all bounds are theirs
pub whole_bounds : (r : Recorder) → length (given_bounds r) ≡ length (recorded r)
    → bounds_in r.asked.items ≡ given_bounds r
whole_bounds r all =
    let n : r.given ≡ length r.asked.items = given_len r ∙ all ∙ length-answers_in r.asked.items in
    ap bounds_in (sym (ap (λ k. take k r.asked.items) n ∙ take-length r.asked.items))

-- ---- the first of its answers

-- after so many answers of its plan were skipped, their planned bounds are given
pub skipped_bounds : (r s : Recorder) (n : ℕ) → s.asked.items ≡ r.asked.items → s.given ≡ n
    → given_bounds s ≡ take n (bounds_in r.asked.items)
skipped_bounds r s n asked given =
    ap (λ (l : List Asked). bounds_in (take s.given l)) asked ∙ ap (λ k. bounds_in (take k r.asked.items)) given
    ∙ sym (take-map (λ (q : Asked). q.bound) n r.asked.items)

-- the bound of an answer that was given
pub given_at : (r : Recorder) (k : ℕ) (q : Asked) (d : ℤ) → k < r.given
    → slice_index_or (given_bounds r) k d ≡ (get_or r.asked.items k q).bound
given_at r k q d within =
    bound_at (take r.given r.asked.items) k q d
    (omega (arith, within, length-take-le r.given r.asked.items (omega (arith, r.bounded, r.asked.ok.0))))
    ∙ ap (λ (x : Asked). x.bound) (get_or-take r.given r.asked.items k q within)

-- the first of the answers are those that were given
pub given_answers : (r : Recorder)
    → answers_in (take r.given r.asked.items) ≡ take (length (given_bounds r)) (recorded r)
given_answers r =
    sym (take-map (λ (q : Asked). q.answer) r.given r.asked.items) ∙ ap (λ n. take n (recorded r)) (given_len r)

-- what is planned after a plan leaves the bounds of the plan
pub same_bounds : (r s : Recorder) (n : ℕ) → n ≤ vec_len r.asked → take (vec_len r.asked) s.asked.items ≡ r.asked.items
    → take n (bounds_in s.asked.items) ≡ take n (bounds_in r.asked.items)
same_bounds r s n few front =
    take-map (λ (q : Asked). q.bound) n s.asked.items
    ∙ ap bounds_in (sym (take_twice n (vec_len r.asked) s.asked.items few) ∙ ap (take n) front)
    ∙ sym (take-map (λ (q : Asked). q.bound) n r.asked.items)
