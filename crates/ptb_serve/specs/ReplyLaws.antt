-- This file states the laws of replies.
-- Main definition: `ReplyLaws`.
--     ListsRuns play IsListed reply    the replies to a listing are the reports of these runs, or of the first n of
--                                      them
--     RunsBySeed seed play reply       the reply to a run by a seed is that to one plain run, whose answers are drawn
--                                      from the seed
--     SamplesBySeed seed play n reply  the replies to a sample are the reports of n runs that are drawn by the words of
--                                      the seed's generator
--     ShareReplies play reply          the replies to the shares of a tree: to the runs that begin with some answers
--     line_items form play u           the answers of a list, in a form
--     SplitsRuns play n reply          the reply to `--shares n` is a line for each list that splits the runs; the
--                                      replies to their shares are the reply to all runs
--     RunReplies play most reply       what the replies are where a program is run, once or with all answers
--     ChecksText p reply               the reply to a check of the program p
--     ReportsChances play most reply     the reply to `--chances` is the table of all results that runs have
--     ReplyLaws                        what a reply is for every program text and every input
use Rattle.std.specs.Prelude.{◌≡◌, true, ℕ, suc, ◌<◌, List, [], ◌∷◌, ◌++◌, length, take, Option}
use Rattle.std.specs.Prelude.{Some, None, Ok, Err, ◌↔◌, Contains, ℤ}
use Rattle.std.specs.List.{flat_map}
use Rattle.ptb_text.specs.declared.fault.LoadFault.{LoadFault}
use Rattle.ptb_text.specs.declared.fault.LoadFault.TheVariants.{TooLong}
use Rattle.ptb_text.specs.Lines.{input_lines}
use Rattle.ptb_text.specs.Statements.{IsMemorySize, Statements, program_limit, listing}
use Rattle.ptb_answers.specs.Outcome.{Answers, Outcome, Done, Asks, bounds, is_open}
use Rattle.ptb_answers.specs.declared.rules.Rules.{Rules}
use Rattle.ptb_machine.specs.Play.{Finish, play, plain_of}
use Rattle.ptb_machine.specs.Questions.{most_answers}
use Rattle.ptb_answers.specs.declared.form.Form.{Form}
use Rattle.ptb_answers.specs.declared.form.Marked.{Marked}
use Rattle.ptb_answers.specs.AnswerText.{answers_of, items_in, without_bound}
use Rattle.ptb_answers.specs.Seeds.{drawn_answers}
use Rattle.ptb_explore.specs.Beginnings.{IsBeginning, beginning_line}
use Rattle.ptb_chances.specs.Chances.{table, table_text}
use Rattle.ptb_explore.specs.Laws.{ReportLaws, TreeLaws}
use Rattle.ptb_explore.specs.Listing.{text}
use Rattle.ptb_explore.specs.MarkedRuns.{IsMarkedBeginning, IsMarkedRun}
use Rattle.ptb_explore.specs.ReportText.{report_text}
use Rattle.ptb_explore.specs.Report.{report}
use Rattle.ptb_machine.specs.EndingWords.{ending_word}
use Rattle.ptb_explore.specs.Samples.{concatenated}
use Rattle.ptb_machine.specs.RunTree.{IsRun, Before, IsRising, answers_to, begins_with, tree}
use Rattle.ptb_serve.specs.declared.note.Note.TheVariants as notes
use Rattle.ptb_options.specs.declared.request.Mode.{Mode}
use Rattle.ptb_options.specs.declared.request.Mode.TheVariants as modes
use Rattle.ptb_options.specs.declared.request.Request.{Request}
use Rattle.ptb_chances.specs.TableLaws.{TableLaws}
use Rattle.ptb_check.specs.Laws.{CheckLaws}
use Rattle.ptb_check.specs.Mistakes.{mistakes, mistakes_text}
use Rattle.ptb_machine.specs.SeededRuns.{IsDrawn}
use Rattle.ptb_serve.specs.Replies.{Reply, refusal, reply_with, run_reply, program_of_text, reply_to}

-- All replies of a listing come from one list of runs, whatever number of them is asked for, and in whatever form.
pub record ListsRuns (play : Answers → Outcome Finish (List ℕ)) (IsListed : Answers → Type 0) (reply : Option ℕ → Form
    → Reply) : Type 0 where
  pub runs : List Answers
  -- each is before all that follow it, so none is there twice
  pub rising : IsRising runs
  -- a list of answers is there exactly where it is to be listed
  pub members : (a : Answers) → Contains runs a ↔ IsListed a
  -- where no number is given, the report of each is written, one after the other, and the status is 0
  pub all : (form : Form) → reply None form ≡ reply_with (text (report form play) runs)
  -- with a number n, the reports of the first n of them, or of all where there are fewer
  pub first : (n : ℕ) (form : Form) → reply (Some n) form ≡ reply_with (text (report form play) (take n runs))

-- A seed gives the answers of one run: each is drawn from the seed for the bound of its question. No other list of
-- answers is drawn so.
pub record RunsBySeed (seed : ℕ) (play : Answers → Outcome Finish (List ℕ)) (reply : Mode → Reply) : Type 0 where
  pub answers : Answers
  pub drawn : IsDrawn seed play answers
  pub only : (a : Answers) → IsDrawn seed play a → a ≡ answers
  -- the reply is that to a plain run with these answers
  pub same : reply (modes.Seeded seed) ≡ reply (modes.Plain answers)

-- A seed draws runs one after the other, each by the words that the runs before it left.
pub record SamplesBySeed (seed : ℕ) (play : Answers → Outcome Finish (List ℕ)) (n : ℕ) (reply : Form
    → Reply) : Type 0 where
  pub runs : List Answers
  pub count : length runs ≡ n
  pub members : (a : Answers) → Contains runs a → IsRun play a
  -- the words of the seed's generator, one after the other, draw the answers of all of them for the bounds of their
  -- questions: no word is left out, and none serves two answers
  pub drawn : concatenated runs ≡ drawn_answers seed (flat_map (bounds play) runs)
  -- the first of them is the run by the seed
  pub first : (a : Answers) (later : ℕ) → n ≡ suc later → IsDrawn seed play a
      → (rest : List Answers) × (runs ≡ a ∷ rest)
  -- the report of each is written in this order, and the status is 0
  pub reports : (form : Form) → reply form ≡ reply_with (text (report form play) runs)

-- The results of all runs, each with its exact chance and the number of its runs. A result is an ending and the last
-- line that was shown.
pub record ReportsChances (play : Answers → Outcome Finish (List ℕ)) (most : ℕ) (reply : Reply) : Type 0 where
  -- the table of the tree is written, whose members are the runs, and the status is 0
  pub rows : reply ≡ reply_with (table_text (table play (tree play most)))
  -- the results rise, and are those of the runs; each has the chance of the runs with it, in lowest terms, and their
  -- number; the chances add up to 1, and the numbers to that of all runs
  pub laws : TableLaws play most

-- A share of all runs are those that begin with some answers.
pub record ShareReplies (play : Answers → Outcome Finish (List ℕ)) (reply : Mode → Reply) : Type 0 where
  -- a run begins with some answers exactly where they are a run, or are asked for one more
  pub beginning : (under : Answers)
      → ((a : Answers) × IsRun play a × (begins_with a under ≡ true)) ↔ (is_open (play under) ≡ true)
  -- every run begins with no answers
  pub whole : (after : Option (List Marked)) (first : Option ℕ) (form : Form)
      → reply (modes.All (Some []) after first form) ≡ reply (modes.All None after first form)
  -- where a question with bound n comes after some answers, their share is that of each answer to it, from 1 to n,
  -- one after the other
  pub question : (under : List Marked) (n : ℤ) (shown : List ℕ) (form : Form) → IsMarkedBeginning play under
      → play (answers_of under) ≡ Asks n shown
      → reply (modes.All (Some under) None None form) ≡ reply_with (flat_map
      (λ k. (reply (modes.All (Some (under ++ without_bound k ∷ [])) None None form)).bytes) (answers_to n))
  -- the share of a run is its report
  pub run : (a : List Marked) (form : Form) → IsMarkedRun play a
      → reply (modes.All (Some a) None None form) ≡ reply_with (report form play (answers_of a))
  -- where two lists first differ, no run begins with both
  pub apart : (u v a : Answers) → Before u v → IsRun play a → begins_with a u ≡ true → begins_with a v ≡ true → ⊥

-- a list of answers as its line has it
abbrev pub line_items : Form → (Answers → Outcome Finish (List ℕ)) → Answers → List Marked
line_items form play u = items_in form u (bounds play u)

-- Lists of at most n answers split all runs into shares.
pub record SplitsRuns (play : Answers → Outcome Finish (List ℕ)) (n : ℕ) (reply : Mode → Reply) : Type 0 where
  pub lists : List Answers
  -- each is before all that follow it, so none is there twice
  pub rising : IsRising lists
  -- a list is there exactly where it is a run of at most n answers, or n answers after which one more is asked for
  pub members : (u : Answers) → Contains lists u ↔ IsBeginning n play u
  -- none begins with another
  pub apart : (u later : Answers) (k : ℤ) → Contains lists u → Contains lists (u ++ k ∷ later) → ⊥
  -- the line of each is written in this order, and the status is 0
  pub lines : (form : Form) → reply (modes.Shares n form) ≡ reply_with (text (beginning_line form play) lists)
  -- some run begins with each, and the bounds in its line are those of its questions
  pub begins : (form : Form) (u : Answers) → Contains lists u → IsMarkedBeginning play (line_items form play u)
  -- the replies to the shares of these lists, one after the other, are the reply to all runs
  pub joined : (form shown : Form) → reply (modes.All None None None shown)
      ≡ reply_with (flat_map (λ u. (reply (modes.All (Some (line_items form play u)) None None shown)).bytes) lists)

-- `play` gives the result of the program on the input, by the list of answers. No run has more answers than `most`.
pub record RunReplies (play : Answers → Outcome Finish (List ℕ)) (most : ℕ) (reply : Mode → Reply) : Type 0 where
  -- the runs are in a tree, each once, in rising order; fewer than `most` answers come before a question; and no run
  -- begins another
  pub tree : TreeLaws play most
  -- all runs are listed, and nothing else
  pub all_runs : ListsRuns play (IsRun play) (λ first form. reply (modes.All None None first form))
  -- after a run that is named, exactly the runs that it is before; bounds that are stated of it are those of its
  -- questions
  pub runs_after : (list : List Marked) → IsMarkedRun play list
      → ListsRuns play (λ a. IsRun play a × Before (answers_of list) a)
      (λ first form. reply (modes.All None (Some list) first form))
  -- where what is named is no run, or a bound is another, nothing is written, and the note and its status say so
  pub no_run : (list : List Marked) (first : Option ℕ) (form : Form) → (IsMarkedRun play list → ⊥)
      → reply (modes.All None (Some list) first form) ≡ refusal notes.NoRun
  -- of the runs that begin with some answers, the same: all of them
  pub share : (under : List Marked) → IsMarkedBeginning play under
      → ListsRuns play (λ a. IsRun play a × (begins_with a (answers_of under) ≡ true))
      (λ first form. reply (modes.All (Some under) None first form))
  -- or those after one of them that is named
  pub share_after : (under list : List Marked) → IsMarkedBeginning play under → IsMarkedRun play list
      → begins_with (answers_of list) (answers_of under) ≡ true
      → ListsRuns play (λ a. IsRun play a × Before (answers_of list) a × (begins_with a (answers_of under) ≡ true))
      (λ first form. reply (modes.All (Some under) (Some list) first form))
  -- where no run begins so, or a bound is another, nothing is written, whatever run is named, and the note and its
  -- status say so
  pub no_beginning : (under : List Marked) (after : Option (List Marked)) (first : Option ℕ) (form : Form)
      → (IsMarkedBeginning play under → ⊥)
      → reply (modes.All (Some under) after first form) ≡ refusal notes.NoBeginning
  -- where what is named is no run, or begins otherwise, it is as with any listing
  pub not_in_share : (under list : List Marked) (first : Option ℕ) (form : Form) → IsMarkedBeginning play under
      → (IsMarkedRun play list → begins_with (answers_of list) (answers_of under) ≡ true → ⊥)
      → reply (modes.All (Some under) (Some list) first form) ≡ refusal notes.NoRun
  -- how the replies to shares fit together
  pub shares : ShareReplies play reply
  -- the lists that are given for shares are those of the definition, and their shares are all runs
  pub split : (n : ℕ) → SplitsRuns play n reply
  -- two runs have two different reports, and no report is in two shares
  pub reports : ReportLaws play most
  -- the report of a run has its answers, in form 2 with their bounds, and the ending, the steps and the transcript of
  -- its play
  pub run_report : (form : Form) (a : Answers) (f : Finish) → play a ≡ Done f []
      → report form play a ≡ report_text (items_in form a (bounds play a)) (ending_word f.ending) f.steps f.shown
  -- a plain run writes what play shows, and has the status of its ending, even if an answer is missing or outside
  -- its bound
  pub plain_run : (a : Answers) → reply (modes.Plain a) ≡ run_reply (plain_of (play a))
  -- a run by a seed is a plain run with the answers that are drawn from the seed
  pub seeded_run : (seed : ℕ) → RunsBySeed seed play reply
  -- a sample is the reports of as many runs as are asked for, which the seed draws one after the other
  pub sampled : (seed runs : ℕ) → SamplesBySeed seed play runs (λ form. reply (modes.Sample seed runs form))
  -- the table of chances has each result that a run has
  pub chances : ReportsChances play most (reply modes.Chances)

-- The reply to a check is each mistake in the text of the program, as a run reports it on a fresh line, and the
-- status shows whether there is one.
pub record ChecksText (p : Statements) (reply : Reply) : Type 0 where
  pub bytes : reply.bytes ≡ mistakes_text p
  pub none : mistakes p ≡ [] → reply.status ≡ 0
  pub some : (mistakes p ≡ [] → ⊥) → reply.status ≡ 1
  pub note : reply.note ≡ None

pub record ReplyLaws : Type 0 where
  -- a text that is too long is refused as a whole, whatever is asked for and whatever it contains
  pub too_long : (r : Request) (b c : List ℕ) → program_limit < length b
      → reply_to r b c ≡ refusal (notes.Load 0 TooLong)
  -- where a text is refused nothing is written, whatever is asked for, and the note has the line that is refused, and
  -- why
  pub refused : (r : Request) (b c : List ℕ) (e : ℕ × LoadFault) → program_of_text r.memory b ≡ Err e
      → reply_to r b c ≡ refusal (notes.Load e.0 e.1)
  -- This is for each program text that is accepted, each input, each memory size, each limit of commands, and each
  -- bound for answers instead of lines, or none. A run is a list of answers that are all taken when play is over. The
  -- reply to `--all` is one report for each run and nothing else, in rising order of the answers: where two runs
  -- first differ, the first of them has the smaller answer. Each report has the answers, in form 2 with their bounds,
  -- and the ending, the steps and the transcript of its play. With `--after` and a run, the reply is this for the
  -- runs after that run. Where the list of `--after` is no run, or has a bound that isn't that of its question,
  -- nothing is written, and the status is 67. With `--under` and the beginning of a run, the reply is this for the
  -- runs that begin so. Where no run begins so, or a bound isn't that of its question, nothing is written, and the
  -- status is 67. With `--first n` it is the first n of the same reports. The status of these replies is 0, except
  -- where 67 is named. The reply to a plain run is what play shows with its answers, and the status is that of the
  -- ending. A run by a seed is a plain run with the answers that are drawn from the seed. With `--sample n` the reply
  -- is the reports of n runs: the first is the run by the seed, and each later one is drawn by the words that the
  -- runs before it left. With `--shares n` the reply is a line for each run of at most n answers, and for each n
  -- answers after which one more is asked for; the replies to `--under` these lists are, one after the other, the
  -- reply to `--all`. With `--chances` the reply is a row for each result that a run has: an ending and a last line.
  -- It has the chance of this result in lowest terms, where each answer to a question is equally likely, and the
  -- number of its runs.
  pub accepted :
      (memory : ℕ) (size : IsMemorySize memory) (rules : Rules) (b c : List ℕ) (p : Statements)
      → program_of_text memory b ≡ Ok p
      → RunReplies (play (record { lines = p; memory = memory }) (input_lines c) rules)
      (most_answers (record { lines = p; memory = memory }) (input_lines c) rules.limit)
      (λ mode. reply_to (record { rules = rules; memory = memory; mode = mode; in_range = size }) b c)
  -- the reply to a listing of a text that is accepted is the listing of its lines
  pub listed : (r : Request) (b c : List ℕ) (p : Statements) → program_of_text r.memory b ≡ Ok p → r.mode ≡ modes.List
      → reply_to r b c ≡ reply_with (listing p)
  -- the reply to a check of a text that is accepted is its mistakes
  pub checked : (r : Request) (b c : List ℕ) (p : Statements) → program_of_text r.memory b ≡ Ok p → r.mode ≡ modes.Check
      → ChecksText p (reply_to r b c)
  -- and where a run of it ends with WHAT, HOW or SORRY, the command at its place has no mistake, or its mistake is one
  -- of these
  pub mistakes : CheckLaws
