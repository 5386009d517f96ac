-- This file defines what the writing of a sample leaves, and states the laws of samples. `report` gives the text of
-- the report of a run.
-- Main definition: `SampleLaws`.
--     WritesRun report a old new r         the report of the run a was written, or nothing, or a prefix of it
--     WritesSample report list old new r   the reports of these runs were written, or those of the first of them
--     PlaysDrawn play first s f            the run whose answers a chooser has drawn ends so
--     concatenated list                    the answers of all runs, one after the other
--     SampleLaws play most                 which runs a sample has, and that each word serves one answer
use Rattle.std.specs.Prelude.{◌≡◌, ℕ, suc, ◌+◌, List, [], ◌∷◌, ◌++◌, length, Option, Result, Ok, Err, Contains}
use Rattle.std.specs.Io.KnownBytes.{Appends}
use Rattle.std.specs.List.{flat_map}
use Rattle.rand_pcg.specs.Lcg.{Lcg}
use Rattle.ptb_text.specs.Device.{TakesSome}
use Rattle.ptb_answers.specs.Outcome.{Answers, Outcome, Done, bounds}
use Rattle.ptb_answers.specs.Seeds.{SeededAnswers, drawn_from, generator_after}
use Rattle.ptb_answers.specs.DrawnAnswers.{IsDrawnFrom, sampled_runs}
use Rattle.ptb_machine.specs.Play.{Finish}
use Rattle.ptb_explore.specs.declared.fault.ExploreFault.{ExploreFault}
use Rattle.ptb_explore.specs.declared.fault.ExploreFault.TheVariants.{Memory, Write}
use Rattle.ptb_text.specs.declared.device_fault.DeviceFault.{DeviceFault}
use Rattle.ptb_text.specs.declared.device_fault.DeviceFault.TheVariants as next
use Rattle.ptb_explore.specs.Listing.{text}
use Rattle.ptb_machine.specs.RunTree.{IsRun}

-- ---- what is written

module _ (report : Answers → List ℕ) where
  abbrev pub WritesRun : Answers → Option (List ℕ) → Option (List ℕ) → Result (Unit {0}) DeviceFault → Type 0
  WritesRun a old new (Ok done) = Appends old new (report a)
  WritesRun a old new (Err next.Memory) = new ≡ old
  WritesRun a old new (Err next.Write) = TakesSome old new (report a)
  WritesRun a old new (Err other) = ⊥

  -- the reports of the first n runs were written, and not of the complete list
  pub record WritesFirst (list : List Answers) (old new : Option (List ℕ)) (n : ℕ) : Type 0 where
    pub prefix : List Answers
    pub rest : List Answers
    pub split : list ≡ prefix ++ rest
    pub some_left : rest ≡ [] → ⊥
    pub bytes : Appends old new (text report prefix)
    pub count : n ≡ length prefix

  -- the reports of the first n runs were written, and a prefix of the next
  pub record WritesPart (list : List Answers) (old new : Option (List ℕ)) (n : ℕ) : Type 0 where
    pub prefix : List Answers
    pub at : Answers
    pub rest : List Answers
    pub split : list ≡ prefix ++ at ∷ rest
    pub part : List ℕ
    pub remainder : List ℕ
    pub cut : report at ≡ part ++ remainder
    pub bytes : Appends old new (text report prefix ++ part)
    pub count : n ≡ length prefix

  abbrev pub WritesSample : List Answers → Option (List ℕ) → Option (List ℕ) → Result (Unit {0}) ExploreFault → Type 0
  WritesSample list old new (Ok done) = Appends old new (text report list)
  WritesSample list old new (Err (Memory n)) = WritesFirst list old new n
  WritesSample list old new (Err (Write n)) = WritesPart list old new n

-- ---- one run

-- a chooser that began with the generator `first` has drawn the answers of a run that ends so, and keeps their bounds
pub record PlaysDrawn (play : Answers → Outcome Finish (List ℕ)) (first : Lcg) (s : SeededAnswers)
    (f : Finish) : Type 0 where
  pub first_is : s.first ≡ first
  pub outcome : play (drawn_from first s.bounds) ≡ Done f []
  pub bounds_are : s.bounds ≡ bounds play (drawn_from first s.bounds)

-- ---- laws

abbrev pub concatenated : List Answers → Answers
concatenated list = flat_map (λ a. a) list

pub record SampleLaws {A W : Type 0} (play : Answers → Outcome A W) (most : ℕ) : Type 0 where
  -- a sample has as many runs as it is to have, and runs alone
  pub count : (g : Lcg) (n : ℕ) → length (sampled_runs most play g n) ≡ n
  pub runs : (g : Lcg) (n : ℕ) (a : Answers) → Contains (sampled_runs most play g n) a → IsRun play a
  -- the first of them is the one run that the generator draws, and the others are a sample by the words that it leaves
  pub first :
      (g : Lcg) (a : Answers) (n : ℕ) → IsDrawnFrom g play a
      → sampled_runs most play g (suc n) ≡ a ∷ sampled_runs most play (generator_after g (length a)) n
  -- the generator's words, one after the other, draw the answers of all runs: no word is left out, and none serves
  -- two answers
  pub words : (g : Lcg) (n : ℕ)
      → concatenated (sampled_runs most play g n) ≡ drawn_from g (flat_map (bounds play) (sampled_runs most play g n))
  -- so a sample continues where a shorter one ends
  pub more :
      (g : Lcg) (m n : ℕ)
      → sampled_runs most play g (m + n) ≡ sampled_runs most play g m ++ sampled_runs most play
      (generator_after g (length (concatenated (sampled_runs most play g m)))) n
