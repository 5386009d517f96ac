-- This file passes on the lemmas that proofs of the crates above may cite. It declares none.

pub use Rattle.ptb_devices.proofs.CutLines.{input_lines-cut}
