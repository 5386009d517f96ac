-- This file proves goals of `argument_at` by short searches, which the prover finds late by itself.
use Rattle.std.proofs.Common.{rules}
use Rattle.ptb_options.proofs.wrong_numbers.argument_at.Goals as goal

pub get-requires : goal.get-requires
get-requires g c κs = search rules fits 50 depth 2
