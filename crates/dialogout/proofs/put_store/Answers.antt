-- The beginning and the words, one after the other, are the line.
-- Assumes nothing.
use Rattle.text.proofs.Writing.{put_then}
use Rattle.dialog.specs.Dialog.{store_line}
use Rattle.dialogout.proofs.put_store.Goals as goal

pub returns : goal.returns
unfolding store_line
returns c = put_then c.put_text-to.ensures c.put_words.ensures
