-- The customer's third demand, as statements over the meaning: what is kept in a struck-out run, what is compared, and the proviso.
-- Assumes nothing.
use Rattle.std.specs.Prelude.{ℕ, ◌+◌, ◌≤◌, ◌≡◌, Bool, true, ◌||◌, cond, List, [], ◌∷◌, eqb}
use Rattle.meaning.specs.Bench.{Bench, hub}
use Rattle.meaning.specs.Packet.{word_no}
use Rattle.meaning.specs.Gateway.{Node, Reader, Gateway}
use Rattle.meaning.specs.Room.{held, share_of, charges}
use Rattle.meaning.specs.Call.{Call, Said, Outcome, Try, Whom, nobody, gateway, one, whom, tried, step}

-- those of a list that pass the test, in their order
unfoldable pub kept : {A : Type 0} → (A → Bool) → List A → List A
kept p [] = []
kept p (x ∷ xs) = cond (p x) (x ∷ kept p xs) (kept p xs)

-- a call stays unless it is for another reader than i
unfoldable pub spared : ℕ → Whom → Bool
spared i nobody = true
spared i gateway = true
spared i (one n) = eqb n i

unfoldable pub stays : Bench → ℕ → Call → Bool
stays b i c = spared i (whom b c)

-- the calls, those for readers other than i struck out
unfoldable pub struck : Bench → ℕ → List Call → List Call
struck b i cs = kept (stays b i) cs

-- a line of a run's log: the call, its result or refusal; and what holds after it of reader i's node (pending answers, count, handover
-- number), of the reader (plaque, continuous reading, region of plaque memory), and the gateway's name
pub record Line : Type 0 where
  pub call : Call
  pub said : Said
  pub node : Node
  pub reader : Reader
  pub name : List ℕ

unfoldable pub line : ℕ → Call → Outcome → Line
line i c o = record { call = c; said = o.said; node = o.next.nodes i; reader = o.next.reader i; name = o.next.name }

unfoldable pub log : Bench → ℕ → Gateway → List Call → List Line
log b i g [] = []
log b i g (c ∷ cs) = line i c (step b g c) ∷ log b i (step b g c).next cs

-- the lines whose calls stay
abbrev pub of_ours : Bench → ℕ → Line → Bool
of_ours b i l = stays b i l.call

-- two gateways that are the same to reader i: its own node, its reader with the region, the gateway's own node, and the name
pub record Same (i : ℕ) (g s : Gateway) : Type 0 where
  pub name : g.name ≡ s.name
  pub own : g.nodes i ≡ s.nodes i
  pub hubs : g.nodes hub ≡ s.nodes hub
  pub side : g.reader i ≡ s.reader i

-- an answer of node n is one of reader i or of the gateway's own node
abbrev pub ours : ℕ → ℕ → Bool
ours i n = eqb n i || eqb n hub

-- if such an answer is due, its node's held words plus the answer are at most its share
unfoldable pub Eased : Bench → ℕ → Try → Type 0
Eased b i (Try.refuse k) = Unit
Eased b i (Try.give r h) = Unit
Eased b i (Try.due n h w) = ours i n ≡ true → held (h.nodes n) + word_no 1 w ≤ share_of b (h.nodes n)

-- and so at every call of a run
unfoldable pub Ease : Bench → ℕ → Gateway → List Call → Type 0
Ease b i g [] = Unit
Ease b i g (c ∷ cs) = Eased b i (tried b g c) × Ease b i (step b g c).next cs

-- both bounds
pub record Bounds (b : Bench) (g : Gateway) : Type 0 where
  pub bounded : (n : ℕ) → held (g.nodes n) ≤ b.limit
  pub stored : charges b g ≤ b.store
