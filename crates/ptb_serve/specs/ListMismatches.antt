-- This file defines why a list of the request fits no run.
-- Main definition: `IsMismatchOf`.
--     mismatch_note m                      the note that it accompanies
--     items_of list                        the items of a list; one that is not named has none
--     IsMismatchIn game under after m      m says why one of these lists fits no run
--     IsMismatchOf mode p input rules m    the same, of the lists of a request
--     refused_attempt m                    the attempt of a listing whose list fits no run
--     unstarted_attempt why                the attempt of a listing that is not begun
--     IsListRefused game under after m         a list is refused by its note, and for what it does not fit
--     IsUnstarted game under after why     a list is refused, or memory was
use Rattle.std.specs.Prelude.{◌≡◌, ℕ, List, [], Option, Some, None, Err}
use Rattle.ptb_text.specs.Statements.{StoredProgram}
use Rattle.ptb_answers.specs.Outcome.{Answers, Outcome}
use Rattle.ptb_answers.specs.declared.form.Marked.{Marked}
use Rattle.ptb_answers.specs.declared.rules.Rules.{Rules}
use Rattle.ptb_machine.specs.Play.{Finish, play}
use Rattle.ptb_explore.specs.declared.fault.OpenFault.{OpenFault}
use Rattle.ptb_explore.specs.declared.fault.OpenFault.TheVariants.{Memory, NoBeginning, NotARun}
use Rattle.ptb_explore.specs.Mismatch.{IsItemMismatch, IsRunMismatch}
use Rattle.ptb_options.specs.declared.request.Mode.{Mode}
use Rattle.ptb_options.specs.declared.request.Mode.TheVariants as modes
use Rattle.ptb_serve.specs.declared.attempt.Attempt.{Attempt}
use Rattle.ptb_serve.specs.declared.list_mismatch.ListMismatch.{ListMismatch}
use Rattle.ptb_serve.specs.declared.list_mismatch.ListMismatch.TheVariants.{Under, After}
use Rattle.ptb_serve.specs.declared.note.Note.{Note}
use Rattle.ptb_serve.specs.declared.note.Note.TheVariants as notes
use Rattle.ptb_serve.specs.Replies.{front_note}

abbrev pub mismatch_note : ListMismatch → Note
mismatch_note (Under m) = notes.NoBeginning
mismatch_note (After m) = notes.NoRun

abbrev pub items_of : Option (List Marked) → List Marked
items_of None = []
items_of (Some list) = list

abbrev pub IsMismatchIn : (Answers → Outcome Finish (List ℕ)) → Option (List Marked) → Option (List Marked)
    → ListMismatch → Type 0
IsMismatchIn game (Some under) after (Under m) = IsItemMismatch game under m
IsMismatchIn game None after (Under m) = ⊥
IsMismatchIn game under (Some list) (After m) = IsRunMismatch game (items_of under) list m
IsMismatchIn game under None (After m) = ⊥

abbrev pub IsMismatchOf : Mode → StoredProgram → List (List ℕ) → Rules → ListMismatch → Type 0
IsMismatchOf (modes.Plain a) p input rules m = ⊥
IsMismatchOf (modes.Seeded seed) p input rules m = ⊥
IsMismatchOf (modes.All under after first form) p input rules m = IsMismatchIn (play p input rules) under after m
IsMismatchOf (modes.Shares answers form) p input rules m = ⊥
IsMismatchOf (modes.Sample seed runs form) p input rules m = ⊥
IsMismatchOf modes.List p input rules m = ⊥
IsMismatchOf modes.Check p input rules m = ⊥
IsMismatchOf modes.Chances p input rules m = ⊥

-- ---- a listing that is not begun

-- a list that fits no run is refused, and it is said why
abbrev pub refused_attempt : ListMismatch → Attempt
refused_attempt m = record { served = Err (mismatch_note m); mismatch = Some m; line = None }

abbrev pub unstarted_attempt : OpenFault → Attempt
unstarted_attempt (NoBeginning m) = refused_attempt (Under m)
unstarted_attempt (NotARun m) = refused_attempt (After m)
unstarted_attempt Memory = record { served = Err notes.OutOfMemory; mismatch = None; line = None }

abbrev pub IsListRefused : (Answers → Outcome Finish (List ℕ)) → Option (List Marked) → Option (List Marked)
    → ListMismatch
    → Type 0
IsListRefused game under after m = (front_note game under after ≡ Some (mismatch_note m))
    × IsMismatchIn game under after m

abbrev pub IsUnstarted : (Answers → Outcome Finish (List ℕ)) → Option (List Marked) → Option (List Marked) → OpenFault
    → Type 0
IsUnstarted game under after (NoBeginning m) = IsListRefused game under after (Under m)
IsUnstarted game under after (NotARun m) = IsListRefused game under after (After m)
IsUnstarted game under after Memory = Unit {0}
