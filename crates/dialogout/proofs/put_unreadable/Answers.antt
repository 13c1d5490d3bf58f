-- The text is the line.
-- Assumes nothing.
use Rattle.dialog.specs.Dialog.{unreadable_line}
use Rattle.dialogout.proofs.put_unreadable.Goals as goal

pub returns : goal.returns
unfolding unreadable_line
returns c = c.put_text.ensures
