-- This file proves that the items of a mismatch are written, with their answers and bounds.
use Rattle.std.proofs.Common.{append_assoc, to_z-of_z, rules, FitsSigned, w16}
use Rattle.std.proofs.Output.{has_written_of_eq}
use Rattle.ptb.proofs.reasons.write_mismatch.Goals as goal

pub returns-in-OutOfRange : goal.returns-in-OutOfRange
returns-in-OutOfRange g c plain ok =
    let answer : FitsSigned w16 c.in-OutOfRange.answer = search rules in
    let bound : FitsSigned w16 c.in-OutOfRange.bound = search rules in
    rw c.in-OutOfRange.is (has_written_of_eq _ _ _ _ _ (simp append_assoc)
    (rw (to_z-of_z answer, to_z-of_z bound) at (c.write.ensures.writes plain ok)))

pub returns-in-OtherBound : goal.returns-in-OtherBound
returns-in-OtherBound g c plain ok =
    let stated : FitsSigned w16 c.in-OtherBound.stated = search rules in
    let bound : FitsSigned w16 c.in-OtherBound.bound = search rules in
    rw c.in-OtherBound.is (has_written_of_eq _ _ _ _ _ (simp append_assoc)
    (rw (to_z-of_z stated, to_z-of_z bound) at (c.write-in-OtherBound.ensures.writes plain ok)))

pub returns-in-Missing : goal.returns-in-Missing
returns-in-Missing g c plain ok =
    let bound : FitsSigned w16 c.in-Missing.bound = search rules in
    rw c.in-Missing.is (has_written_of_eq _ _ _ _ _ (simp append_assoc)
    (rw (to_z-of_z bound) at (c.write-in-Missing.ensures.writes plain ok)))
