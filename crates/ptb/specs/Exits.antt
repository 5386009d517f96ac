-- This file defines what the program does by its arguments, and the status with which it exits.
-- Main definition: `ExitsBy`.
--     unread_status kind              the status where the arguments can't be read, by the kind of the error
--     wants_seed terminals o          a run that the options ask for draws its seed, at these terminals
--     with_seed o drawn               the options with the seed that was drawn, if one was
--     by_seed r drawn                 a request with that seed
--     AsksAt terminals o drawn r      the options ask for the request r, with the seed that was drawn, if one was
--     shown_status kind shown         the status of an error of clap, by whether it was shown
--     IsRefusedStatus kind n          clap answered an error of this kind
--     AnswersOptions .. terminals entries n     the request of the options is served, or they ask for none
--     ExitsBy .. terminals arguments n  so it is with the options of these arguments, or clap finds a fault in them
--     IsUnreadStatus kind input out n     the arguments can't be read
use Rattle.std.specs.Prelude.{◌≡◌, ◌≤◌, ◌&&◌, ◌⊎◌, ℕ, Bool, true, false, not, List, [], Option}
use Rattle.std.specs.Prelude.{Some, None, IfSome, Result, codes, is_some}
use Rattle.std.specs.declared.io.ErrorKind.{ErrorKind as ReadErrorKind}
use Rattle.std.specs.declared.io.ErrorKind.TheVariants as reading
use Rattle.clap.specs.declared.error.ErrorKind.{ErrorKind}
use Rattle.clap.specs.declared.error.ErrorKind.TheVariants.{DisplayHelp, DisplayVersion, OutOfMemory}
use Rattle.clap.specs.Words.{IsAmong, Kinds, Row, Text, fault_of, first_of, matches_of}
use Rattle.ptb_options.specs.CommandLine.{tool}
use Rattle.ptb_options.specs.declared.request.Mode.{Mode}
use Rattle.ptb_options.specs.declared.request.Mode.TheVariants as modes
use Rattle.ptb_options.specs.declared.request.Request.{Request}
use Rattle.ptb_options.specs.declared.usage.UsageFault.{UsageFault}
use Rattle.ptb_options.specs.Options.{Options, Requests, RefusesOptions, options_of}
use Rattle.ptb_options.specs.Statuses.{refusal_status, usage_status}
use Rattle.ptb_machine.specs.Streams.{Reads, Writes}
use Rattle.ptb_serve.specs.declared.note.Note.{Note}
use Rattle.ptb_serve.specs.declared.note.Note.TheVariants as notes
use Rattle.ptb_serve.specs.Statuses.{note_status}
use Rattle.ptb.specs.declared.terminal.Terminals.{Terminals}
use Rattle.ptb.specs.OpenedPrograms.{IsUntouched, ServesTask}

-- an argument is no text, or there is no memory for the arguments
abbrev pub unread_status : ReadErrorKind → ℕ
unread_status reading.OutOfMemory = note_status notes.OutOfMemory
unread_status _ = 64

-- ---- what the options ask for

-- at a terminal a run that is given neither answers nor a seed draws its seed
abbrev pub wants_seed : Terminals → Options → Bool
wants_seed terminals o =
    terminals.input && terminals.output && not o.list && not o.check && not o.chances && not o.all
    && not (is_some o.answers) && not (is_some o.seed)

abbrev pub is_answered : Mode → Bool
is_answered (modes.Plain a) = true
is_answered _ = false

-- the same of a request that is made without a seed: its mode is a run with a list of answers
abbrev pub draws_seed : Terminals → Options → Mode → Bool
draws_seed terminals o mode = terminals.input && terminals.output && not (is_some o.answers) && is_answered mode

abbrev pub with_seed : Options → Option ℕ → Options
with_seed o None = o
with_seed o (Some seed) = record o { seed = Some seed }

abbrev pub by_seed : Request → Option ℕ → Request
by_seed r None = r
by_seed r (Some seed) = record r { mode = modes.Seeded seed }

pub record AsksAt (terminals : Terminals) (o : Options) (drawn : Option ℕ) (r : Request) : Type 0 where
  pub asks : Requests (with_seed o drawn) r
  pub draws : is_some drawn ≡ wants_seed terminals o
  pub small : IfSome drawn (λ seed. seed ≤ 999999)

-- ---- what clap refuses

-- help and version go to standard output, and it is noted where they can't be written
abbrev pub shown_status : ErrorKind → Bool → ℕ
shown_status DisplayHelp false = note_status notes.Unwritten
shown_status DisplayVersion false = note_status notes.Unwritten
shown_status kind shown = refusal_status kind

pub record IsRefusedStatus (kind : ErrorKind) (n : ℕ) : Type 0 where
  pub shown : Bool
  pub status : n ≡ shown_status kind shown

-- ---- what the program does by its arguments

-- `NoneOpened` says that no program was opened
module _ {R : Type 0} (input : Reads R) (out : Writes) (NoneOpened : Type 0) where
  -- the options are a usage error
  pub record IsUsageStatus (options : Options) (n : ℕ) : Type 0 where
    pub fault : UsageFault
    pub refuses : RefusesOptions options fault
    pub status : n ≡ usage_status fault
    pub untouched : IsUntouched input out
    pub unopened : NoneOpened

  -- clap refused the arguments, for one of these faults or for lack of memory
  pub record IsFaultStatus (faults : Kinds) (n : ℕ) : Type 0 where
    pub kind : ErrorKind
    pub has : (kind ≡ OutOfMemory) ⊎ IsAmong kind faults
    pub status : IsRefusedStatus kind n
    pub untouched : IsUntouched input out
    pub unopened : NoneOpened

  -- the arguments can't be read, by an error of this kind
  pub record IsUnreadStatus (kind : ReadErrorKind) (n : ℕ) : Type 0 where
    pub status : n ≡ unread_status kind
    pub untouched : IsUntouched input out
    pub unopened : NoneOpened

module _ {P R : Type 0} (opens : Option (List ℕ) → Result P Note → Type 0) (text : P → P
    → Reads P) (input : Reads R) (out : Writes) (NoneOpened : Type 0) where
  pub record AnswersRequest (terminals : Terminals) (entries : List Row) (n : ℕ) : Type 0 where
    pub drawn : Option ℕ
    pub request : Request
    pub asks : AsksAt terminals (options_of entries) drawn request
    -- the program's path is the argument that is no option
    pub serves : ServesTask opens text (first_of (codes "program") entries) request input out n

  abbrev pub AnswersOptions : Terminals → List Row → ℕ → Type 0
  AnswersOptions terminals entries n =
      AnswersRequest terminals entries n ⊎ IsUsageStatus input out NoneOpened (options_of entries) n

  -- the options of arguments without a fault are answered, and otherwise it is the status of their fault
  pub record ExitsBy (terminals : Terminals) (arguments : List Text) (n : ℕ) : Type 0 where
    pub exits : ((fault_of tool arguments ≡ []) × AnswersOptions terminals (matches_of tool arguments) n)
        ⊎ IsFaultStatus input out NoneOpened (fault_of tool arguments) n
