-- This file proves which letter is next.
use Rattle.ptb_text.proofs.TakenTokens.{text_is, next_is, letter_ahead, letter_is_there}
use Rattle.ptb_text.proofs.cursor.Cursor.next_letter.Goals as goal

pub returns : goal.returns
returns c =
    let text = text_is c.self.view_is in
    let next = next_is c.self.view_is c.self.invariant.0 in
    record {
      value = letter_ahead _ _ _ _ _ _ text next c.self.invariant.4 c.self.invariant.2 c.new.ensures;
      there = letter_is_there _ _ _ _ _ _ text next c.self.invariant.4 c.new.ensures;
    }
