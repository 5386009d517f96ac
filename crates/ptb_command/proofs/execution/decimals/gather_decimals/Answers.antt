-- This file answers what is left to prove of `gather_decimals`.
use Rattle.std.proofs.Common.{◌≡◌, ◌∙◌, ◌++◌, ◌+◌, ◌-◌, ◌≤◌, ℕ, List, ap, append_assoc, arith, length, drop, take}
use Rattle.std.proofs.Common.{length-append}
use Rattle.std.specs.Prelude.{replicate}
use Rattle.std.proofs.lemmas.List.{length-replicate, length-take, take-replicate}
use Rattle.ptb_command.proofs.ShownBytes.{block_end, padded_parts}
use Rattle.ptb_command.proofs.execution.decimals.gather_decimals.Goals as goal

pub append_few-requires : goal.append_few-requires
append_few-requires c =
    let before = c.saturating_sub-before.result in
    let fits : before ≤ 239 = omega (arith, c.saturating_sub-before.ensures, c.from-width.ensures) in
    let front : length c.append_many.new.self ≡ length c.args.pending.now + before =
    ap length c.append_many.ensures ∙ length-append c.args.pending.now (take before (replicate 239 32))
    ∙ ap (λ (n : ℕ). length c.args.pending.now + n)
    (ap length (take-replicate before 239 32 fits) ∙ length-replicate before 32) in
    record {
      room = omega (
        arith,
        front,
        c.saturating_sub-before.ensures,
        c.from-width.ensures,
        c.requires.blanks,
        c.requires.block,
      );
      block = omega (arith, c.min-from.ensures, c.requires.text.0, c.requires.text.1);
      few = omega arith;
    }

pub returns : goal.returns
returns c decimals is =
    let text = c.args.text.now in
    let start = c.args.start in
    let k = c.min-from.result in
    let before = c.saturating_sub-before.result in
    let whole : length (take 16 text) ≡ 16 = omega (arith, c.requires.text.0, length-take 16 text) in
    let ends : start + length decimals ≡ 16 =
    omega (
      arith,
      whole,
      ap length is,
      length-append (replicate start 32) decimals,
      length-replicate {A = ℕ} start 32,
    ) in
    let few : k ≤ start = omega (arith, c.min-from.ensures) in
    let within : k ≤ 16 = omega (arith, few, c.requires.text.1) in
    let fits : before ≤ 239 = omega (arith, c.saturating_sub-before.ensures, c.from-width.ensures) in
    let size : before + (start - k) ≡ c.args.width - length decimals =
    omega (arith, ends, c.min-from.ensures, c.saturating_sub-before.ensures, c.from-width.ensures) in
    c.append_few.ensures
    ∙ ap (λ (x : List ℕ). c.append_many.new.self ++ x) (block_end text k within)
    ∙ ap (λ (x : List ℕ). x ++ drop k (take 16 text)) c.append_many.ensures
    ∙ append_assoc c.args.pending.now _ (drop k (take 16 text))
    ∙ ap (λ (x : List ℕ). c.args.pending.now ++ x)
    (padded_parts decimals (take 16 text) start k before c.args.width is few fits size)
