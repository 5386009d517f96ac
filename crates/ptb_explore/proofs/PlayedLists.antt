-- This file proves that a search for lists plays no more commands than their plays begin, and those of one play that
-- was refused memory.
-- Main lemmas: `next_list_played` and `next_list_once`.
use Rattle.std.proofs.Common.{◌≡◌, ◌∙◌, ℕ, ◌+◌, ◌<◌, [], Bool, true, false, Result, Ok, Err, IfOk, OnErr}
use Rattle.std.proofs.Common.{ap, subst, arith}
use Rattle.std.specs.declared.alloc.AllocError.{AllocError}
use Rattle.ptb_machine.specs.Laws.{RunLaws}
use Rattle.ptb_machine.specs.RunTree.{Front, At, End, runs_after}
use Rattle.ptb_explore.specs.Beginnings.{IsSameSearch, MovesTo, PlaysList, PlaysLists, PlaysOneListMore, Splitting}
use Rattle.ptb_explore.specs.Beginnings.{list_steps, list_steps_left}
use Rattle.ptb_explore.specs.Copies.{play_limit}
use Rattle.ptb_explore.specs.Explorations.{steps_of_runs}
use Rattle.ptb_explore.proofs.NextRuns.{left_next, left_none}
use Rattle.ptb_explore.proofs.PlayedRuns.{none_left, plays_once}
use Rattle.ptb_explore.proofs.WrittenLines.{game_of, game_reads}

module _ (laws : RunLaws) (old new : Splitting) (same : IsSameSearch old new) where
  abbrev steps_from : Front → ℕ
  steps_from f = steps_of_runs (list_steps old) (runs_after (game_of old) old.most [] f)

  left_at : (f : Front) → new.front ≡ f → list_steps_left new ≡ steps_from f
  left_at f at = ap list_steps_left same ∙ ap steps_from at

  found_played : (found : Bool) → MovesTo (game_of old) old.front new.front found → PlaysList old new found
      → PlaysLists old new
  found_played true moved plays =
      let u = moved.0 in
      let was : list_steps_left old ≡ list_steps old u + steps_from (At u) =
      ap (steps_of_runs (list_steps old))
      (left_next (game_of old) old.most (game_reads laws old) [] old.front u moved.1) in
      omega (arith, left_at (At u) moved.2, was, plays u moved.2)
  found_played false moved plays =
      let none : steps_from End ≡ 0 = ap (steps_of_runs (list_steps old))
      (left_none (game_of old) old.most (game_reads laws old) [] End (λ b run k. absurd (none_left [] b k))) in
      omega (arith, left_at End moved.1, none, plays)

  pub next_list_played : (result : Result Bool AllocError) (found : Bool) → result ≡ Ok found
      → IfOk result (MovesTo (game_of old) old.front new.front) → IfOk result (PlaysList old new) → PlaysLists old new
  next_list_played result found is moved plays = found_played found
      (subst (λ (r : Result Bool AllocError). IfOk r (MovesTo (game_of old) old.front new.front)) is moved)
      (subst (λ (r : Result Bool AllocError). IfOk r (PlaysList old new)) is plays)

  refused_once : new.front ≡ old.front → new.played < old.played + play_limit → PlaysOneListMore old new
  refused_once unmoved once = omega (arith, left_at old.front unmoved, once)

  pub next_list_once : (result : Result Bool AllocError)
      → IfOk result (MovesTo (game_of old) old.front new.front) → IfOk result (PlaysList old new)
      → OnErr result (new.front ≡ old.front) → new.played < old.played + play_limit → PlaysOneListMore old new
  next_list_once (Ok found) moved plays unmoved once = plays_once (found_played found moved plays)
  next_list_once (Err e) moved plays unmoved once = refused_once unmoved once
