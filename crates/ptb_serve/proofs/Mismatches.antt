-- This file proves what is said of a list that fits no run.
-- Main lemma: `unstarted_told`.
use Rattle.std.proofs.Common.{◌≡◌, ◌⊎◌, inl, inr, ℕ, List, Option, Some, None, Result, Ok, Err}
use Rattle.std.proofs.Common.{IfOk, IfSome, IsErrOf, IsSome, refl, ap, sym, subst}
use Rattle.ptb_text.specs.Lines.{input_lines}
use Rattle.ptb_text.specs.ProgramTexts.{IsLoaded}
use Rattle.ptb_text.specs.Statements.{StoredProgram}
use Rattle.ptb_answers.specs.declared.form.Form.{Form}
use Rattle.ptb_answers.specs.declared.form.Marked.{Marked}
use Rattle.ptb_machine.specs.Play.{play}
use Rattle.ptb_explore.specs.declared.fault.ExploreFault.{ExploreFault}
use Rattle.ptb_explore.specs.declared.fault.ExploreFault.TheVariants as explores
use Rattle.ptb_explore.specs.declared.fault.OpenFault.{OpenFault}
use Rattle.ptb_explore.specs.declared.fault.OpenFault.TheVariants.{Memory, NoBeginning, NotARun}
use Rattle.ptb_options.specs.declared.request.Mode.{Mode}
use Rattle.ptb_options.specs.declared.request.Mode.TheVariants as modes
use Rattle.ptb_options.specs.declared.request.Request.{Request}
use Rattle.ptb_serve.specs.declared.list_mismatch.ListMismatch.{ListMismatch}
use Rattle.ptb_serve.specs.declared.list_mismatch.ListMismatch.TheVariants.{Under, After}
use Rattle.ptb_serve.specs.declared.note.Note.{Note}
use Rattle.ptb_serve.specs.declared.note.Note.TheVariants as notes
use Rattle.ptb_command.specs.declared.ending.Ending.{Ending}
use Rattle.ptb_machine.specs.declared.fault.RunFault.{RunFault}
use Rattle.ptb_machine.specs.declared.fault.RunFault.TheVariants as faults
use Rattle.ptb_serve.specs.LoadedPrograms.{IsRunStatus, RefusesListIn, ReportsMismatch}
use Rattle.ptb_serve.specs.ListMismatches.{IsMismatchIn, IsMismatchOf, IsListRefused, IsUnstarted}
use Rattle.ptb_serve.specs.ListMismatches.{mismatch_note, refused_attempt, unstarted_attempt}
use Rattle.ptb_serve.specs.Replies.{program_of_text}
use Rattle.ptb_serve.specs.ServedRequests.{device_note, outcome_of, reports_note}
use Rattle.ptb_text.specs.declared.device_fault.DeviceFault.{DeviceFault}
use Rattle.ptb_serve.proofs.ServedListings.{device_note-beginning, device_note-start}
use Rattle.ptb_serve.proofs.ServedPrograms.{at_known, outcome_of-err, outcome_of-note, program_of_text-ok}

-- nothing is said where no list is refused
pub none_told : (mode : Mode) (request : Request) (p : StoredProgram) (known : Option (List ℕ)) (result : Result ℕ Note)
    → (RefusesListIn result → ⊥) → ReportsMismatch mode request p known result None
none_told mode request p known result other = record { said = λ h. absurd (other h); noted = tt; fits = λ _ _. tt }

-- as with a run that is served or not,
pub run_refuses_none : (r : Result Ending RunFault) (result : Result ℕ Note) → IsRunStatus r result
    → RefusesListIn result → ⊥
run_refuses_none (Ok e) result h (inl x) = cc
run_refuses_none (Ok e) result h (inr x) = cc
run_refuses_none (Err faults.Memory) result h (inl x) = cc
run_refuses_none (Err faults.Memory) result h (inr x) = cc
run_refuses_none (Err faults.Read) result h (inl x) = cc
run_refuses_none (Err faults.Read) result h (inr x) = cc
run_refuses_none (Err faults.Write) result h (inl x) = cc
run_refuses_none (Err faults.Write) result h (inr x) = cc
run_refuses_none (Err faults.Spent) result h x = absurd h

-- and with a success
pub success_refuses_none : (n : ℕ) → RefusesListIn (Ok n) → ⊥
success_refuses_none n (inl x) = cc
success_refuses_none n (inr x) = cc

-- with a writer that failed, or memory that was refused between reports,
pub reports_refuse_none : (fault : ExploreFault) → RefusesListIn (Err (reports_note fault)) → ⊥
reports_refuse_none (explores.Memory n) (inl x) = cc
reports_refuse_none (explores.Memory n) (inr x) = cc
reports_refuse_none (explores.Write n) (inl x) = cc
reports_refuse_none (explores.Write n) (inr x) = cc

memory_refuses_none : RefusesListIn (Err notes.OutOfMemory) → ⊥
memory_refuses_none (inl x) = cc
memory_refuses_none (inr x) = cc

-- and with an input that can't be read
pub unread_refuses_none : (note : Note) (fault : DeviceFault) → note ≡ device_note fault → RefusesListIn (Err note) → ⊥
unread_refuses_none note fault is (inl x) =
    device_note-beginning fault (subst (λ (n : Note). IsErrOf {T = ℕ} (Err n) notes.NoBeginning) is x)
unread_refuses_none note fault is (inr x) =
    device_note-start fault (subst (λ (n : Note). IsErrOf {T = ℕ} (Err n) notes.NoRun) is x)

-- what holds of a mismatch, if there is one, gives something else that does
pub if_mismatch : (P Q : ListMismatch → Type 0) (o : Option ListMismatch) → ((m : ListMismatch) → P m → Q m)
    → IfSome o P → IfSome o Q
if_mismatch P Q None f h = tt
if_mismatch P Q (Some m) f h = f m h

-- where a list is refused, it is said why
refused_told : (request : Request) (p : StoredProgram) (known : Option (List ℕ)) (input : List (List ℕ))
    → IfSome known (λ c. input ≡ input_lines c)
    → (under after : Option (List Marked)) (first : Option ℕ) (form : Form) (m : ListMismatch)
    → IsListRefused (play p input request.rules) under after m
    → ReportsMismatch (modes.All under after first form) request p known (refused_attempt m).served
    (refused_attempt m).mismatch
refused_told request p known input lines under after first form m x = record {
  said = λ _. refl;
  noted = refl;
  fits =
      λ c is. subst (λ i. IsMismatchIn (play p i request.rules) under after m)
      (at_known (λ d. input ≡ input_lines d) c is lines) x.1;
}

-- and so it is where a listing is not begun
pub unstarted_told : (request : Request) (p : StoredProgram) (known : Option (List ℕ)) (input : List (List ℕ))
    → IfSome known (λ c. input ≡ input_lines c)
    → (under after : Option (List Marked)) (first : Option ℕ) (form : Form) (why : OpenFault)
    → IsUnstarted (play p input request.rules) under after why
    → ReportsMismatch (modes.All under after first form) request p known (unstarted_attempt why).served
    (unstarted_attempt why).mismatch
unstarted_told request p known input lines under after first form Memory x =
    none_told (modes.All under after first form) request p known (Err notes.OutOfMemory) memory_refuses_none
unstarted_told request p known input lines under after first form (NoBeginning m) x =
    refused_told request p known input lines under after first form (Under m) x
unstarted_told request p known input lines under after first form (NotARun m) x =
    refused_told request p known input lines under after first form (After m) x

-- and no line stopped it
pub unstarted_line : (why : OpenFault) → (unstarted_attempt why).line ≡ None
unstarted_line Memory = refl
unstarted_line (NoBeginning m) = refl
unstarted_line (NotARun m) = refl

-- ---- for a program that was loaded

pub said_outcome : (result : Result ℕ Note) (mismatch : Option ListMismatch) → (RefusesListIn result → IsSome mismatch)
    → ((outcome_of result).note ≡ Some notes.NoBeginning) ⊎ ((outcome_of result).note ≡ Some notes.NoRun)
    → IsSome mismatch
said_outcome result mismatch said (inl h) = said (inl (outcome_of-note result notes.NoBeginning h))
said_outcome result mismatch said (inr h) = said (inr (outcome_of-note result notes.NoRun h))

pub noted_outcome : (result : Result ℕ Note) (mismatch : Option ListMismatch)
    → IfSome mismatch (λ m. IsErrOf result (mismatch_note m))
    → IfSome mismatch (λ m. (outcome_of result).note ≡ Some (mismatch_note m))
noted_outcome result mismatch noted =
    if_mismatch (λ m. IsErrOf result (mismatch_note m))
    (λ m. (outcome_of result).note ≡ Some (mismatch_note m)) mismatch
    (λ m. outcome_of-err result (mismatch_note m)) noted

pub mismatch_loaded : (mode : Mode) (request : Request) (b c : List ℕ) (p : StoredProgram)
    (mismatch : Option ListMismatch)
    → IsLoaded request.memory b p.lines → p.memory ≡ request.memory
    → IfSome mismatch (IsMismatchOf mode p (input_lines c) request.rules)
    → IfOk (program_of_text request.memory b) (λ q. IfSome mismatch
    (IsMismatchOf mode (record { lines = q; memory = request.memory }) (input_lines c) request.rules))
mismatch_loaded mode request b c p mismatch h e fits =
    let stored : record { lines = p.lines; memory = request.memory } ≡ p = ap (λ m. record p { memory = m }) (sym e) in
    rw (program_of_text-ok request.memory b p.lines h)
    (subst (λ q. IfSome mismatch (IsMismatchOf mode q (input_lines c) request.rules)) (sym stored) fits)
