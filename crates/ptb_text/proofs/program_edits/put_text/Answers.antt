-- This file answers what is left to prove of `put_text`, and goals that the prover finds late by itself.
use Rattle.std.proofs.Common.{rules, arith}
use Rattle.std.proofs.lemmas.Grind.{common_steps}
use Rattle.ptb_text.proofs.PoolEdits.{put_items}
use Rattle.ptb_text.proofs.program_edits.put_text.Goals as goal

pub unwrap-requires : goal.unwrap-requires
unwrap-requires c = grind (arith, common_steps)

pub slice_bounds-rotate_right-count : goal.slice_bounds-rotate_right-count
slice_bounds-rotate_right-count c = grind (arith, common_steps)

pub slice_bounds-rotate_right-start : goal.slice_bounds-rotate_right-start
slice_bounds-rotate_right-start c = grind (arith, common_steps)

pub rotate_right-requires : goal.rotate_right-requires
rotate_right-requires c = grind (arith, common_steps)

pub returns : goal.returns
returns c =
    put_items c.args.pool.now.items c.args.text.now c.args.start c.args.end c.requires.order
    (omega (arith, c.requires.within, c.args.pool.now.ok.0)) _
    c.extend_from_slice.new.self c.extend_from_slice.result tt c.extend_from_slice.ensures.items
    (search rules fits 50 depth 2) c.unwrap.ensures c.deref_mut.result.now c.rotate_right.new.self
    c.deref_mut.ensures.value c.deref_mut.ensures.len c.rotate_right.ensures.after
