-- The console: what an outcome prints, and the conversation as a function of the input's bytes.
-- Assumes nothing.
use Rattle.std.specs.Prelude.{ℕ, zero, suc, ◌+◌, cond, List, [], ◌∷◌, ◌++◌, eqb}
use Rattle.std.proofs.Math.Seq.{slice}
use Rattle.meaning.specs.Bench.{Bench, full, hub}
use Rattle.meaning.specs.Gateway.{Gateway, Node}
use Rattle.meaning.specs.Call.{Said, refused, answered, queued, done, quiet, handed, step}
use Rattle.machine.specs.Layout.{store_of}
use Rattle.text.specs.Text.{ascii, decimal_of, words_line}
use Rattle.listing.specs.Lines.{refused_line}
use Rattle.listing.specs.Listing.{Turn, blank}
use Rattle.dialog.specs.Fields.{before}
use Rattle.dialog.specs.Spoken.{Spoken, passed, unreadable, call, look, spoken}

-- ---- "Lines out"
-- no line out is longer, its line feed counted
abbrev pub longest_answer : ℕ
longest_answer = 691

-- "`collected NUMBER WORD WORD ..`: the handover number in decimal, then the words, four upper-case hex digits each"
unfoldable pub collected_line : ℕ → List ℕ → List ℕ
collected_line h ws = ascii "collected " ++ (decimal_of h ++ (32 ∷ words_line ws))

unfoldable pub said_line : Said → List ℕ
said_line queued = ascii "queued\n"  -- "a command or a check whose answer joined its node's list"
said_line (answered quiet) = ascii "quiet\n"  -- "a check that is quiet by the paper"
said_line (answered done) = ascii "done\n"  -- "an arrival, a leaving, an acknowledgement"
said_line (answered (handed ws h)) = collected_line h ws
said_line (refused k) = refused_line k  -- "the paper's refusal"

-- "unreadable: the line is no call; nothing has changed, and the gateway plays on"
unfoldable pub unreadable_line : List ℕ
unreadable_line = ascii "unreadable\n"

-- "`store` and those words of the answer store", the words as those of an answer
unfoldable pub store_line : List ℕ → List ℕ
store_line ws = ascii "store " ++ words_line ws

-- the nodes in the order in which their answers lie in the store: "node 1's from the front .., then node 2's, to 16, then 32's"
unfoldable pub first_nodes : ℕ → (ℕ → Node) → List Node
first_nodes zero f = []
first_nodes (suc n) f = first_nodes n f ++ (f (suc n) ∷ [])

unfoldable pub in_order : Bench → Gateway → List Node
in_order b g = first_nodes b.readers g.nodes ++ (g.nodes hub ∷ [])

unfoldable pub reply_to : Bench → Gateway → Spoken → Turn
reply_to b g passed = record { line = []; after = g }
reply_to b g unreadable = record { line = unreadable_line; after = g }
reply_to b g (call c) = record { line = said_line (step b g c).said; after = (step b g c).next }
reply_to b g (look first count) = record { line = store_line (slice first (first + count) (store_of b.store (in_order b g))); after = g }

-- ---- the conversation
-- "A line ends in one line feed; the last may lack it and is played all the same."
unfoldable pub lines_of : List ℕ → List (List ℕ)
lines_of [] = []
lines_of (c ∷ cs) = cond (eqb c 10) ([] ∷ lines_of cs) (before c (lines_of cs))

unfoldable pub replies : Bench → Gateway → List (List ℕ) → List ℕ
replies b g [] = []
replies b g (l ∷ ls) = (reply_to b g (spoken l)).line ++ replies b (reply_to b g (spoken l)).after ls

-- "It starts from a fresh state, with plaque memory and store all 0."
unfoldable pub conversation : List ℕ → List ℕ
conversation input = replies full (blank full) (lines_of input)
