-- All lists swept, an answer judged for room and joined, and the oldest taken away: what the code leaves, to the last word.
-- Assumes nothing.
use Rattle.std.specs.Prelude.{ℕ, ◌+◌, ◌-◌, ◌≤◌, ◌<◌, ◌≡◌, true, false, List, length, get_or, set, replicate}
use Rattle.units.specs.declared.Words.{Words}
use Rattle.meaning.specs.Bench.{Bench, node_count}
use Rattle.meaning.specs.Gateway.{Sweep, none, clearing, resetting}
use Rattle.meaning.specs.Packet.{overall}
use Rattle.state.specs.State.{nothing, joined_node, emptied_node, reset_node}
use Rattle.machine.specs.Consistent.{bounded, counts}
use Rattle.state.specs.declared.node.Node.{Node}
use Rattle.lists.specs.Room.{room_for, place_of}
use Rattle.moves.specs.Moved.{inserted, removed}
use Rattle.store.specs.declared.Broom.{Broom}
use Rattle.store.specs.declared.Broom.TheVariants as B
use Rattle.store.specs.declared.Enlisted.{Enlisted}

unfoldable pub broom_of : Broom → Sweep
broom_of B.Nothing = none
broom_of B.Clear = clearing
broom_of B.Reset = resetting

-- the same, of a node in the code
unfoldable pub swept_node : Broom → Node → Node
swept_node B.Nothing n = n
swept_node B.Clear n = emptied_node n
swept_node B.Reset n = reset_node n

-- .. of the words that the nodes hold
unfoldable pub swept_words : Broom → List Words → List Words
swept_words B.Nothing hs = hs
swept_words B.Clear hs = replicate (length hs) nothing
swept_words B.Reset hs = replicate (length hs) nothing

-- .. and of the store: the words that were held become 0
abbrev wiped : List Words → List ℕ → List ℕ
wiped hs store = removed store 0 (place_of (counts hs) (length hs)) (place_of (counts hs) (length hs))

unfoldable pub swept_store : Broom → List Words → List ℕ → List ℕ
swept_store B.Nothing hs store = store
swept_store B.Clear hs store = wiped hs store
swept_store B.Reset hs store = wiped hs store

-- ---- an answer of so many words that may be enlisted at the node of index i, in a store of so many words
pub record Enlistable (b : Bench) (hs : List Words) (i : ℕ) (own : Node) (answer store : ℕ) : Type 0 where
  pub size : store ≡ b.store
  pub bounds : bounded b (counts hs) ≡ true
  pub index : i < node_count b
  pub few : own.answers < 65535
  pub short : answer ≤ overall 255

-- the words that the nodes hold with an answer more at one
abbrev pub held_more : List Words → ℕ → ℕ → List Words
held_more hs i words = set hs i (record { 0 = (get_or hs i nothing).0 + words })

-- the store with an answer behind the last of the node at index i
abbrev pub store_more : List Words → ℕ → List ℕ → List ℕ → List ℕ
store_more hs i a store = inserted store (place_of (counts hs) (i + 1)) (place_of (counts hs) (length hs)) a

-- room is judged after the sweep: with room the answer joins, without it nothing changes
pub record Enlists (b : Bench) (z : Broom) (hs : List Words) (i : ℕ) (own : Node) (a store store' : List ℕ) (r : Enlisted) : Type 0 where
  pub room : r.ok ≡ room_for b (counts (swept_words z hs)) i (length a)
  pub yes : r.ok ≡ true → (r.node ≡ joined_node own) × (r.held ≡ held_more (swept_words z hs) i (length a))
      × (store' ≡ store_more (swept_words z hs) i a (swept_store z hs store))
  pub no : r.ok ≡ false → (r.node ≡ own) × (r.held ≡ hs) × (store' ≡ store)

-- ---- the oldest answer leaves the node at index i: the word at the node's place says how many words it has
abbrev pub oldest_at : List Words → ℕ → List ℕ → ℕ
oldest_at hs i store = get_or store (place_of (counts hs) i) 0

-- one that stands there: within the node's words, and all words within the store
pub record Takeable (b : Bench) (hs : List Words) (i : ℕ) (store : List ℕ) : Type 0 where
  pub index : i < node_count b
  pub least : 1 ≤ oldest_at hs i store
  pub own : oldest_at hs i store ≤ (get_or hs i nothing).0
  pub before : place_of (counts hs) i + oldest_at hs i store ≤ place_of (counts hs) (node_count b)
  pub inside : place_of (counts hs) (node_count b) ≤ length store

pub record Takes (b : Bench) (hs : List Words) (i : ℕ) (store store' : List ℕ) (r : List Words) : Type 0 where
  pub held : r ≡ set hs i (record { 0 = (get_or hs i nothing).0 - oldest_at hs i store })
  pub words : store' ≡ removed store (place_of (counts hs) i) (place_of (counts hs) (node_count b)) (oldest_at hs i store)
