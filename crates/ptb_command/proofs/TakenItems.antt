-- This file proves the result of an item of INPUT, if a line at hand came first.
-- Main lemmas: `taken_comes` and `item_done`.
use Rattle.std.proofs.Common.{◌≡◌, ◌≤◌, ◌+◌, ◌++◌, ℕ, ℤ, Bool, true, false, List, [], ◌∷◌, Option, Result, Ok, Err}
use Rattle.std.proofs.Common.{ap, append_assoc, length, refl, subst, sym}
use Rattle.std.specs.Prelude.{if◌then◌else◌, IfSome, slice_get}
use Rattle.ptb_text.specs.declared.device_fault.DeviceFault.{DeviceFault}
use Rattle.ptb_answers.specs.declared.pause.Pause.{Pause}
use Rattle.ptb_answers.specs.declared.chooser.Chooser as choosers
use Rattle.ptb_devices.specs.declared.lines.LineSource as sources
use Rattle.ptb_devices.specs.declared.screen.Screen as screens
use Rattle.ptb_expr.specs.declared.store.Target.{Target}
use Rattle.ptb_expr.specs.Store.{Cells}
use Rattle.ptb_expr.specs.Tree.{Tree}
use Rattle.ptb_command.specs.Commands.{Part, Take}
use Rattle.ptb_command.specs.declared.operation.Operation.{Operation}
use Rattle.ptb_command.specs.declared.operation.Operation.TheVariants.{Done, Input}
use Rattle.ptb_command.specs.declared.command_io.CommandIo.{CommandIo}
use Rattle.ptb_command.specs.declared.execution.parts.CodeInText.{CodeInText}
use Rattle.ptb_command.specs.declared.execution.parts.Item.{Item}
use Rattle.ptb_command.specs.declared.execution.print.Output.{Output}
use Rattle.ptb_command.specs.declared.stop.CommandStop.{CommandStop}
use Rattle.ptb_command.specs.Act.{ask_for, first_width, item_action, parts_action}
use Rattle.ptb_command.specs.Actions.{goes_on}
use Rattle.ptb_command.specs.CommandIo.{pending_trace}
use Rattle.ptb_command.specs.Devices.{refused_answers, refused_by}
use Rattle.ptb_command.specs.ScreenOperations.{ArePartsDone, IsOnlyItem, IsPartDone, IsPartTaken, ShowsOrTakes}
use Rattle.ptb_command.specs.Stops.{Comes, NotMissed, miss_of}
use Rattle.ptb_command.specs.Traces.{Trace, with_pending, still_pending, RefinesPart}
use Rattle.ptb_command.proofs.Borrows.{borrows_on}
use Rattle.ptb_command.proofs.InputItems.{line_asked, line_left, take_refines_part, take_stops, with_given, with_most}
use Rattle.ptb_command.proofs.LineAnswers.{answering_again, answering_done, answering_fails}
use Rattle.ptb_command.proofs.MissedLines.{fewer_lines, missed_from, missed_on, stop_unmissed}
use Rattle.ptb_command.proofs.PartRefinement.{refines_part_refl, refines_part_under}
use Rattle.ptb_command.proofs.ShownParts.{goes_on_after, gone_done, gone_start, stops_at}
use Rattle.ptb_command.proofs.Stops.{comes_after}

-- ---- a line is at hand

module _ (rest : List Part) (w : ℕ) (operands : List ℤ) (x : Tree) (prompt : List ℕ) where
  -- the item is to be done again
  taken_again : {o n : Trace} → RefinesPart o n (item_action [] x prompt) (item_action [] x prompt)
      → RefinesPart o n (parts_action (Take [] x prompt ∷ rest) w operands)
      (parts_action (Take [] x prompt ∷ rest) w operands)
  unfolding parts_action
  taken_again a = refines_part_under (λ u. parts_action rest w operands) a

  module _ (answers : Pause → ℤ → Type 0) (unread : DeviceFault → Type 0) (lines : Option (List (List ℕ)))
      {i m : Trace} (n : Trace) (at : Target) (most : ℕ) (l : List ℕ) (given : List (List ℕ))
      (asked : RefinesPart i m (ask_for [] x prompt) (goes_on at)) (fewer : most + 1 ≤ m.devices.most)
      (is : given ≡ m.devices.given ++ l ∷ []) where
    line_given : RefinesPart i (with_given given (with_most most m)) (item_action [] x prompt)
        (line_left [] x prompt at l)
    line_given = line_asked [] x prompt most at l given (refines_part_refl _ _) asked fewer is

    pub taken_comes : (r : Result Bool CommandStop)
        → Comes (refused_answers answers) (with_given given (with_most most m)) n (line_left [] x prompt at l)
        (λ stored. if stored then goes_on tt else item_action [] x prompt) r
        → Comes (refused_by answers unread lines) i n (parts_action (Take [] x prompt ∷ rest) w operands)
        (λ done. parts_action (if done then rest else Take [] x prompt ∷ rest) w operands) r
    taken_comes (Ok true) h =
        take_refines_part rest w operands [] x prompt (answering_done [] x prompt at l line_given n true refl h)
    taken_comes (Ok false) h = taken_again (answering_again [] x prompt at l line_given n false refl h)
    taken_comes (Err e) h =
        take_stops rest w operands (refused_by answers unread lines) i
        (with_pending (still_pending n.pending e) n) [] x prompt e
        (answering_fails [] x prompt at l line_given answers unread lines n (λ (stored : Bool). goes_on tt) (Err e) e
        refl h)

-- ---- the part

module _ {C S L : Type 0} (chooser : choosers.Ghosts C) (screen : screens.Ghosts S) (source : sources.Ghosts L)
    (code : CodeInText) (operation : Operation) where
  abbrev Taken : Cells → Cells → CommandIo C S L → CommandIo C S L → Output → Output → Result Bool CommandStop → Type 0
  Taken c e o n old new r = IsPartTaken chooser screen source code.text.now code.steps.now operation c e o n old new r

  abbrev Finished : Cells → Cells → CommandIo C S L → CommandIo C S L → Output → Output → Result (Unit {0}) CommandStop
      → Type 0
  Finished c e o n old new r = IsPartDone chooser screen source code operation c e o n old new r

  module _ (c e : Cells) (o n : CommandIo C S L) (old new : Output) where
    -- it is done
    pub taken_done : Taken c e o n old new (Ok true) → Finished c e o n old new (Ok tt)
    taken_done h = record {
      given = h.given;
      gives = h.gives;
      comes = h.comes;
      passed = λ part means never k. h.passed part means never;
      missed = h.missed;
      same = h.same;
    }

    -- it stops
    pub taken_stops : (stop : CommandStop) → Taken c e o n old new (Err stop) → Finished c e o n old new (Err stop)
    taken_stops stop h = record {
      given = h.given;
      gives = h.gives;
      comes = h.comes;
      passed = λ part means never k. h.passed part means never;
      missed = stop_unmissed (source.refused n.source.now) _ h.missed stop;
      same = h.same;
    }

  -- it is left to do, and is done then
  pub taken_left : ((s t u : L) (xs ys : List (List ℕ)) → source.gives s xs t → source.gives t ys u
      → source.gives s (xs ++ ys) u) → ((s t : L) (xs : List (List ℕ)) → source.gives s xs t
      → source.most t + length xs ≤ source.most s)
      → (c e f : Cells) (o n m : CommandIo C S L) (old mid new : Output) (r : Result (Unit {0}) CommandStop)
      → Taken c e o n old mid (Ok false) → Finished e f n m mid new r → Finished c f o m old new r
  taken_left gives_more falls c e f o n m old mid new r h k = record {
    given = h.given ++ k.given;
    gives = gives_more _ _ _ _ _ h.gives k.gives;
    comes = λ before part rest operands means.
        subst (λ (ks : List (List ℕ)). Comes (refused_by (chooser.refused m.chooser.now) (source.refused m.source.now)
        (source.lines m.source.now)) (pending_trace chooser.choices screen source.most o before c old.pending)
        (pending_trace chooser.choices screen source.most m ks f new.pending)
        (parts_action (part ∷ rest) old.width operands)
        (λ u. parts_action rest new.width operands) r) (append_assoc before h.given k.given)
        (comes_after _ _ (λ (u : Unit {0}). parts_action rest new.width operands)
        (h.comes before part rest operands means) r (k.comes (before ++ h.given) part rest operands means));
    passed = λ part means never. λ y. h.passed part means never;
    missed = missed_from (source.refused m.source.now)
        (NotMissed n.rules.choose (source.missed n.source.now) (source.missed m.source.now) (source.most m.source.now))
        (NotMissed o.rules.choose (source.missed o.source.now) (source.missed m.source.now) (source.most m.source.now))
        (missed_on source.refused source.missed source.most o.rules.choose o.source.now n.source.now m.source.now
        (fewer_lines source.gives source.most falls _ _ _ k.gives) h.missed _ (ap (λ r. r.choose) h.same.rules))
        (miss_of r) k.missed;
    same = borrows_on h.same k.same;
  }

-- ---- the only item of a command

module _ {C S L : Type 0} (chooser : choosers.Ghosts C) (screen : screens.Ghosts S) (source : sources.Ghosts L)
    (gives_none : (s : L) → source.gives s [] s) (gives_more : (s t u : L) (xs ys : List (List ℕ))
    → source.gives s xs t → source.gives t ys u → source.gives s (xs ++ ys) u) (falls : (s t : L) (xs : List (List ℕ))
    → source.gives s xs t → source.most t + length xs ≤ source.most s) (code : CodeInText) (item : Item)
    (only : IsOnlyItem code.operations.now item) (c e : Cells) (o n : CommandIo C S L) (old new : Output) where
  shows_item : IfSome (slice_get code.operations.now 0) ShowsOrTakes
  shows_item = subst (λ l. IfSome (slice_get l 0) ShowsOrTakes) (sym only.1) tt

  item_there : (next : ℕ) → Input item.prompt item.destination ≡ Done next → ⊥
  item_there next h = let clash : Input item.prompt item.destination ≡ Done next = h in cc

  pub item_done : IsPartDone chooser screen source code (Input item.prompt item.destination) c e o n old new (Ok tt)
      → ArePartsDone chooser screen source code c e o n old.pending new.pending old.width (Ok item.next)
  item_done h =
      gone_done chooser screen source code c o old _ _ _ item.next e n new
      (goes_on_after chooser screen source code c o old gives_more falls _ _ _ c e o n old new
      (gone_start chooser screen source code c o old gives_none shows_item) only.1 item_there h) refl refl

  pub item_stops : (stop : CommandStop)
      → IsPartDone chooser screen source code (Input item.prompt item.destination) c e o n old new (Err stop)
      → ArePartsDone chooser screen source code c e o n old.pending new.pending old.width (Err stop)
  item_stops stop h =
      stops_at chooser screen source code c o old gives_more falls _ _ _ c e o n old new
      (gone_start chooser screen source code c o old gives_none shows_item) only.1 item_there stop (Err stop) refl h

  -- the line at hand had a value
  pub item_taken : (r : Result Bool CommandStop) → r ≡ Ok true → old.pending ≡ [] → old.width ≡ first_width
      → IsPartTaken chooser screen source code.text.now code.steps.now (Input item.prompt item.destination)
      c e o n old new r
      → ArePartsDone chooser screen source code c e o n [] new.pending first_width (Ok item.next)
  item_taken r is empty width h =
      subst (λ (w : ℕ). ArePartsDone chooser screen source code c e o n [] new.pending w (Ok item.next)) width
      (subst (λ (pending : List ℕ). ArePartsDone chooser screen source code c e o n pending new.pending old.width
      (Ok item.next)) empty
      (item_done (taken_done chooser screen source code (Input item.prompt item.destination) c e o n old new
      (subst (λ (q : Result Bool CommandStop). IsPartTaken chooser screen source code.text.now code.steps.now
      (Input item.prompt item.destination) c e o n old new q) is h))))
