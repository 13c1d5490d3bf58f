-- Each case writes its own line; a refusal its number too.
-- Assumes nothing.
use Rattle.promise.specs.Obeyed.{said_of}
use Rattle.dialog.specs.Dialog.{said_line}
use Rattle.dialogout.proofs.put_said.Goals as goal

pub returns-in-Refused : goal.returns-in-Refused
unfolding said_of said_line
returns-in-Refused c = rw c.in-Refused.is c.put_refused.ensures

pub returns-in-Done : goal.returns-in-Done
unfolding said_of said_line
returns-in-Done c = rw c.in-Done.is c.put_text.ensures

pub returns-in-Quiet : goal.returns-in-Quiet
unfolding said_of said_line
returns-in-Quiet c = rw c.in-Quiet.is c.put_text-in-Quiet.ensures

pub returns-in-Queued : goal.returns-in-Queued
unfolding said_of said_line
returns-in-Queued c = rw c.in-Queued.is c.put_text-in-Queued.ensures
