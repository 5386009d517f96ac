-- This file proves what reading within a limit results in, by what was read before and what the last read did.
-- Main lemmas: `TakesUpTo_more` and `ReadsUpTo_after`.
use Rattle.std.proofs.Common.{◌≡◌, ◌∙◌, ℕ, ◌+◌, ◌<◌, ◌≤◌, List, [], ◌++◌, length, take, Option, None, Some}
use Rattle.std.proofs.Common.{IfSome, Result, Ok, IsOk, refl, sym, ap, subst, arith, append-nil, length-append}
use Rattle.std.proofs.lemmas.List.{length-take-le}
use Rattle.std.specs.Result.{IsErr, is_ok}
use Rattle.std.specs.Io.KnownBytes.{Consumes, IsAtEnd}
use Rattle.std.proofs.KnownBytes.{Consumes-nil, Consumes-trans, Consumes-whole}
use Rattle.ptb_text.specs.declared.device_fault.DeviceFault.{DeviceFault}
use Rattle.ptb_text.specs.declared.allowance.Piece.{Piece}
use Rattle.ptb_text.specs.declared.allowance.Piece.TheVariants.{End, Bytes, TooLong}
use Rattle.ptb_text.specs.Device.{GivesExactly, HasFailed, IsCounted}
use Rattle.ptb_text.specs.Streams.{Reads, ReadsUpTo, ReadsWithin, DescribesRead, reads_of}
use Rattle.ptb_text.proofs.ByteCounts.{IsCounted_more, IsCounted_none}

-- these bytes were taken so far, more may be, and no read failed
pub record TakesUpTo {R : Type 0} (limit left : ℕ) (input : Reads R) (taken : List ℕ) : Type 0 where
  pub consumed : Consumes input.bytes input.left taken
  pub given : IsCounted input.gave input.gives (length taken)
  pub room : length taken + left ≡ limit + 1
  pub some : 0 < left
  pub unfailed : input.fails ≡ input.failed

-- a reader that gave more than the limit had more
longer : (a b : Option (List ℕ)) (bs : List ℕ) (limit : ℕ) → limit < length bs → Consumes a b bs
    → IfSome a (λ all. limit < length all)
longer None b bs limit above took = tt
longer (Some xs) None bs limit above took = absurd took
longer (Some xs) (Some ys) bs limit above took = omega (arith, above, ap length took, length-append bs ys)

-- what a read says, where its result is known
pub told_as : {R : Type 0} {left now : ℕ} {input : Reads R} {result : Result Piece DeviceFault} {buffer : List ℕ}
    (step : ReadsWithin left now input result buffer) (r : Result Piece DeviceFault) → result ≡ r
    → DescribesRead r step.taken buffer left now input.left
told_as {R} {left} {now} {input} {result} {buffer} step r is =
    subst (λ r. DescribesRead r step.taken buffer left now input.left) is step.described

module _ {R : Type 0} (remaining : R → Option (List ℕ)) (given failures : R → ℕ) (limit : ℕ) where
  abbrev read_from : R → R → Reads R
  read_from old new = reads_of remaining given failures old new

  pub TakesUpTo_none : (r : R) → TakesUpTo limit (limit + 1) (read_from r r) []
  TakesUpTo_none r = record {
    consumed = Consumes-nil (remaining r);
    given = IsCounted_none (given r);
    room = omega arith;
    some = omega arith;
    unfailed = refl;
  }

  -- these bytes were taken before a read
  module _ (old mid new : R) (left now : ℕ) (taken buffer : List ℕ) (result : Result Piece DeviceFault)
      (before : TakesUpTo limit left (read_from old mid) taken)
      (step : ReadsWithin left now (read_from mid new) result buffer) where
    all_consumed : Consumes (remaining old) (remaining new) (taken ++ step.taken)
    all_consumed = Consumes-trans (remaining old) (remaining mid) (remaining new) taken step.taken before.consumed
        step.consumed

    all_length : length (taken ++ step.taken) + now ≡ limit + 1
    all_length = omega (arith, length-append taken step.taken, before.room, step.room)

    all_given : IsCounted (given old) (given new) (length (taken ++ step.taken))
    all_given = subst (IsCounted (given old) (given new)) (sym (length-append taken step.taken))
        (IsCounted_more (given old) (given mid) (given new) (length taken) (length step.taken) before.given step.given)

    -- it gave some
    module _ (n : ℕ) (is : result ≡ Ok (Bytes n)) where
      pub TakesUpTo_more : TakesUpTo limit now (read_from old new) (taken ++ take n buffer)
      TakesUpTo_more =
          let read : DescribesRead (Ok (Bytes n)) step.taken buffer left now (remaining new) =
          told_as step (Ok (Bytes n)) is in
          subst (λ bs. TakesUpTo limit now (read_from old new) (taken ++ bs)) read.0 (record {
            consumed = all_consumed;
            given = all_given;
            room = all_length;
            some = read.3;
            unfailed = step.unfailed (ap is_ok is) ∙ before.unfailed;
          })

      -- so fewer may still be taken
      pub falls : now < left
      falls =
          let read : DescribesRead (Ok (Bytes n)) step.taken buffer left now (remaining new) =
          told_as step (Ok (Bytes n)) is in
          let size : length step.taken ≡ n = ap length read.0 ∙ length-take-le n buffer read.2 in
          omega (arith, size, read.1, step.room)

    -- it was at its end, and these bytes were all
    pub all_taken : result ≡ Ok End → (P : List ℕ → Type 0) → P taken → IfSome (remaining old) P
    all_taken is P holds =
        let told : DescribesRead (Ok End) step.taken buffer left now (remaining new) = told_as step (Ok End) is in
        let whole : taken ++ step.taken ≡ taken = ap (λ bs. taken ++ bs) told.0 ∙ append-nil taken in
        Consumes-whole (remaining old) (remaining new) taken P
        (subst (Consumes (remaining old) (remaining new)) whole all_consumed) told.2 holds

    -- what a call has read that ends with this read
    pub ReadsUpTo_after : (complete too_long failed : Type 0) → (complete → result ≡ Ok End)
        → (too_long → result ≡ Ok TooLong) → (failed → IsErr result) → (¬ failed → IsOk result)
        → ReadsUpTo limit (read_from old new) complete too_long failed
    ReadsUpTo_after complete too_long failed is_complete is_too_long is_failed is_read =
        let end : complete → IsAtEnd (remaining new) = λ h. (told_as step (Ok End) (is_complete h)).2 in
        let within : complete → length (taken ++ step.taken) ≤ limit =
        λ h. omega (arith, all_length, (told_as step (Ok End) (is_complete h)).1) in
        let over : too_long → length (taken ++ step.taken) ≡ limit + 1 =
        λ h. omega (arith, all_length, (told_as step (Ok TooLong) (is_too_long h)).1) in
        record {
          consumed = (taken ++ step.taken, omega (arith, all_length), all_consumed);
          given = (all_given.at_most.0, omega (arith, all_given.at_most.1, all_length));
          end = end;
          within = λ h. Consumes-whole (remaining old) (remaining new) (taken ++ step.taken) (λ b. length b ≤ limit)
              all_consumed (end h) (within h);
          given_within = λ h. (all_given.at_most.0, omega (arith, all_given.at_most.1, within h));
          longer = λ h. longer (remaining old) (remaining new) (taken ++ step.taken) limit (omega (arith, over h))
              all_consumed;
          given_longer = λ h. subst (GivesExactly (given old) (given new)) (over h)
              (all_given.exactly (omega (arith, over h)));
          has_failed = λ h. subst (λ (k : ℕ). HasFailed k (failures new)) before.unfailed
              (step.has_failed (is_failed h));
          unfailed = λ other. step.unfailed (is_read other) ∙ before.unfailed;
          later = omega (arith, before.unfailed, step.later);
        }
