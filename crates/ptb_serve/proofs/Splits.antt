-- This file proves how the lists that split the runs are served, from what was read and what was written.
-- Main lemmas: `shares_written` and `shares_broken`.
use Rattle.std.proofs.Common.{◌≡◌, ◌∙◌, ℕ, inl, List, [], ◌∷◌, length}
use Rattle.std.proofs.Common.{take, Option, Some, None, Result, Ok, Err, refl, ap, sym, subst}
use Rattle.std.proofs.Common.{IsErrOf}
use Rattle.std.specs.Io.KnownBytes.{Appends}
use Rattle.std.specs.List.{filter}
use Rattle.std.specs.Result.{IsErrAnd}
use Rattle.std.proofs.KnownBytes.{Appends-nil}
use Rattle.std.proofs.Math.Seq.{take-append_seam}
use Rattle.ptb_text.specs.Lines.{input_lines}
use Rattle.ptb_text.specs.Statements.{StoredProgram}
use Rattle.ptb_answers.specs.Outcome.{Answers}
use Rattle.ptb_answers.specs.declared.form.Form.{Form}
use Rattle.ptb_answers.specs.declared.rules.Rules.{Rules}
use Rattle.ptb_text.specs.declared.device_fault.DeviceFault.{DeviceFault}
use Rattle.ptb_devices.specs.Sources.{IsSourceFault}
use Rattle.ptb_machine.specs.Play.{play}
use Rattle.ptb_machine.specs.declared.fault.RunFault.TheVariants as faults
use Rattle.ptb_explore.specs.declared.fault.ExploreFault.{ExploreFault}
use Rattle.ptb_explore.specs.declared.fault.ExploreFault.TheVariants as explores
use Rattle.ptb_explore.specs.Listing.{WritesRuns, text}
use Rattle.ptb_explore.specs.Beginnings.{Splitting, beginning_line, beginnings, split_play, stopped}
use Rattle.ptb_machine.specs.RunTree.{Front, Start, is_left, runs_left, tree}
use Rattle.ptb_options.specs.declared.request.Mode.{Mode}
use Rattle.ptb_options.specs.declared.request.Mode.TheVariants as modes
use Rattle.ptb_options.specs.declared.request.Request.{Request}
use Rattle.ptb_machine.proofs.PublicLemmas.{takes_prefix}
use Rattle.ptb_machine.specs.Streams.{Writes as Output}
use Rattle.ptb_serve.specs.declared.note.Note.{Note}
use Rattle.ptb_serve.specs.declared.note.Note.TheVariants as notes
use Rattle.ptb_serve.specs.LoadedPrograms.{IsServedOn, ServesProgram}
use Rattle.ptb_serve.specs.Replies.{Reply, shares_reply}
use Rattle.ptb_serve.specs.ServedRequests.{SplitsFewerOf, Serves, device_note, outcome_of, reports_note}
use Rattle.ptb_serve.proofs.ServedListings.{below_both, serves_mode, text-prefix, text-into}
use Rattle.ptb_serve.proofs.Mismatches.{run_refuses_none}
use Rattle.ptb_serve.proofs.ServedPrograms.{nothing_told, splits_loaded, serves_loaded, takes_nothing}
use Rattle.ptb_serve.proofs.WholeInput.{all_due, all_written, at_lines, cut_due, cut_silent, IsDue, ReportsWriter}
use Rattle.ptb_serve.proofs.WholeInput.{gives_err, reports_cut, unread_due}

-- ---- what was written

-- no list is left out before the first
all_left : (xs : List Answers) → filter (is_left [] Start) xs ≡ xs
all_left [] = refl
all_left (x ∷ xs) = ap (λ s. x ∷ s) (all_left xs)

-- a number by another name
begun_with : (p : StoredProgram) (input : List (List ℕ)) (rules : Rules) (n m : ℕ) → m ≡ n → (s : Splitting)
    → s ≡ record { program = p; input = input; rules = rules; most = m; front = Start; played = 0 }
    → s ≡ record { program = p; input = input; rules = rules; most = n; front = Start; played = 0 }
begun_with p input rules n m same s h =
    h ∙ ap (λ (k : ℕ). record { program = p; input = input; rules = rules; most = k; front = Start; played = 0 }) same

module _ (p : StoredProgram) (request : Request) (n : ℕ) (form : Form) (input : List (List ℕ))
    (old new : Option (List ℕ)) where
  abbrev due : List Answers
  due = beginnings n (play p input request.rules)

  abbrev line : Answers → List ℕ
  line = beginning_line form (play p input request.rules)

  abbrev left : List Answers
  left = runs_left (stopped n (play p input request.rules)) n [] Start None

  left_due : left ≡ due
  left_due = all_left (tree (stopped n (play p input request.rules)) n)

  abbrev Writes : Front → Result ℕ ExploreFault → Type 0
  Writes f r = WritesRuns (stopped n (play p input request.rules)) [] line left Start f old new r

  -- all of the lines
  all_served : (f : Front) (k : ℕ) → Writes f (Ok k)
      → Serves (shares_reply p input request.rules n form) old new (outcome_of (Ok 0))
  all_served f k w =
      record { bytes = subst (λ l. Appends old new (text line l)) left_due w.bytes; status = refl; note = refl }

  -- not all of them
  cut_served : (f : Front) (fault : ExploreFault) → Writes f (Err fault)
      → Serves (shares_reply p input request.rules n form) old new (outcome_of (Err (reports_note fault)))
  cut_served f (explores.Memory k) w =
      takes_prefix old new _ _ w.bytes (text-prefix line due w.prefix w.rest (sym left_due ∙ w.split))
  cut_served f (explores.Write k) w =
      takes_prefix old new _ _ w.bytes
      (text-into line due w.prefix w.at w.rest w.part w.remainder (sym left_due ∙ w.split) w.cut)

  fewer_split : (f : Front) (fault : ExploreFault) → Writes f (Err fault)
      → IsErrOf {T = ℕ} (Err (reports_note fault)) notes.OutOfMemory
      → SplitsFewerOf p input request.rules n form old new
  fewer_split f (explores.Memory k) w refused = record {
    count = length w.prefix;
    fewer = below_both w.prefix w.rest due (sym left_due ∙ w.split) w.some_left;
    bytes =
        subst (λ l. Appends old new (text line l))
        (sym (ap (take (length w.prefix)) (sym left_due ∙ w.split) ∙ take-append_seam w.prefix w.rest)) w.bytes;
  }
  fewer_split f (explores.Write k) w refused = absurd cc

-- ---- how it is served

module _ (request : Request) (p : StoredProgram) (memory : p.memory ≡ request.memory) (n : ℕ) (form : Form) where
  abbrev shares : Mode
  shares = modes.Shares n form

  abbrev reply : List ℕ → Reply
  reply c = shares_reply p (input_lines c) request.rules n form

  abbrev Fewer : Option (List ℕ) → Option (List ℕ) → List ℕ → Type 0
  Fewer old new c = SplitsFewerOf p (input_lines c) request.rules n form old new

  module _ (i j : Option (List ℕ)) where
    shares_serve : (old new : Option (List ℕ)) (result : Result ℕ Note)
        → IsDue shares reply (Fewer old new) i old new result → ServesProgram shares request p i j old new result
    shares_serve old new result due =
        serves_mode shares (λ x. x) request p i j old new result
        (λ b c l is. serves_loaded request.memory (Some b) (λ q. shares_reply q (input_lines c) request.rules n form) p
        old new result l memory (due.served c is))
        (λ b. nothing_told i) (λ b. due.unread)
        (λ b c l is h. splits_loaded request b c p n form old new l memory (due.stopped c is h))
        due.quiet due.success due.loaded

    -- the lines can't be read
    pub unread_split : (held : Option (List ℕ)) (fault : DeviceFault) → IsSourceFault fault
        → ServesProgram shares request p i j held held (Err (device_note fault))
    unread_split held fault kind =
        shares_serve held held _ (unread_due shares reply (Fewer held held) i held (Appends-nil held) tt fault kind)

  -- a search continued from its front, and is dropped
  module _ (input : List (List ℕ)) (s : Splitting) (f : Front) (m : ℕ) (is : m ≡ n)
      (begun : s ≡ record { program = p; input = input; rules = request.rules; most = m; front = Start; played = 0 })
      (out : Output) where
    same : s ≡ record { program = p; input = input; rules = request.rules; most = n; front = Start; played = 0 }
    same = begun_with p input request.rules n m is s begun

    abbrev WritesFrom : Splitting → Result ℕ ExploreFault → Type 0
    WritesFrom x r =
        WritesRuns (stopped x.most (split_play x)) [] (beginning_line form (split_play x))
        (runs_left (stopped x.most (split_play x)) x.most [] x.front None) x.front f out.before out.after r

    written_from : (r : Result ℕ ExploreFault) → WritesFrom s r → Writes p request n form input out.before out.after f r
    written_from r w = subst (λ x. WritesFrom x r) same w

    pub shares_written : (k : ℕ) → WritesFrom s (Ok k) → out.fails ≡ out.failed
        → IsServedOn shares request p input out (Ok 0)
    shares_written k w =
        all_written shares request p input out
        (λ i j lines. shares_serve i j out.before out.after (Ok 0) (all_due shares reply (Fewer out.before out.after)
        i out.before out.after
        (at_lines (λ l. Serves (shares_reply p l request.rules n form) out.before out.after (outcome_of (Ok 0))) input
        i lines
        (all_served p request n form input out.before out.after f k (written_from (Ok k) w))) tt))

    pub shares_broken : {T : Type 0} (result : Result ℕ Note) (fault : ExploreFault)
        → IsErrAnd result (λ m. m ≡ reports_note fault) → WritesFrom s (Err fault)
        → ReportsWriter T fault out.failed out.fails
        → IsServedOn shares request p input out result
    shares_broken {T = T} result fault is w =
        reports_cut shares request p input out {T = T} result fault is
        (λ i j lines. shares_serve i j out.before out.after (Err (reports_note fault))
        (cut_due shares reply (Fewer out.before out.after) i out.before out.after fault
        (at_lines (λ l. Serves (shares_reply p l request.rules n form) out.before out.after (outcome_of (Err
        (reports_note fault))))
        input i lines (cut_served p request n form input out.before out.after f fault (written_from (Err fault) w)))
        (cut_silent shares out.before out.after tt tt fault)
        (λ c is refused. at_lines (λ l. SplitsFewerOf p l request.rules n form out.before out.after) input i lines
        (fewer_split p request n form input out.before out.after f fault (written_from (Err fault) w) refused) c is)))

  -- there was no memory to begin the search
  pub shares_unstarted : (input : List (List ℕ)) (held : Option (List ℕ)) (broke : ℕ) (result : Result ℕ Note)
      → IsErrAnd result (λ m. m ≡ notes.OutOfMemory)
      → IsServedOn shares request p input (record { before = held; after = held; failed = broke; fails = broke }) result
  shares_unstarted input held broke result is =
      subst (IsServedOn shares request p input (record { before = held; after = held; failed = broke; fails = broke }))
      (sym (gives_err result notes.OutOfMemory is))
      (record {
        serves = λ known left lines.
            shares_serve known left held held (Err notes.OutOfMemory)
            (record {
              served = λ c _. takes_nothing held _;
              quiet = tt;
              stopped = λ _ _ _. inl (Appends-nil held);
              unread = λ x. absurd cc;
              success = tt;
              loaded = λ x. x;
            });
        read = λ x. absurd cc;
        failures = record { unwritten = λ x. absurd cc; written = λ _. refl };
        no_list = run_refuses_none (Err faults.Memory) (Err notes.OutOfMemory) refl;
      })
