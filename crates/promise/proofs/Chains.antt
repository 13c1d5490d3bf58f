-- A chain of calls, each as promised, from a machine that is in order: it says what the meaning's run says, and means what that comes to.
-- Assumes nothing.
use Rattle.units.proofs.Common.{rules, sym, ◌∙◌, ◌≡◌, refl, ap, fun_ext, true, false, Bool, cond, false≢true, List, [], ◌∷◌, ℕ, suc, ◌*◌}
use Rattle.units.proofs.Common.{zero, length, get_or, replicate, length-replicate, eq-eqb, every}
use Rattle.meaning.specs.Bench.{node_count}
use Rattle.meaning.proofs.Terms.{Bench, full, is_reader, is_node, Gateway, fresh, Call, Said, refused, answered, queued, step, run, added}
use Rattle.meaning.specs.Gateway as M
use Rattle.demands.specs.Sound.{full_sound}
use Rattle.demands.specs.Demand.{Line, line, log, kept, struck, stays, Ease}
use Rattle.demands.proofs.Room.{refusal_changes_nothing}
use Rattle.demands.proofs.Alone.{strike_out}
use Rattle.machine.proofs.Terms.{nothing, fresh_reader, fresh_node, Machine, meaning, seen, node_slot, nodes_in, nodes_of, readers_of, reader_of}
use Rattle.machine.proofs.Terms.{field_of, mode_of, region_of, plain, laid, all_laid, cuts, past, formed, charges_of, bounded, lists_ok, node_ok}
use Rattle.machine.proofs.Terms.{plaque_ok, reading_ok, report_ok, reader_ok, name_ok, unfit}
use Rattle.machine.specs.Machine.{reader_slot}
use Rattle.machine.proofs.Read.{packed_ok}
use Rattle.promise.specs.Obeyed.{is_refusal, Does, expected, Obeyed}
use Rattle.promise.specs.Runs.{Exchange, Chain, ended, calls, lines, zero_store, fresh_machine}
use Rattle.promise.proofs.Parts.{fit}

turned_is : (s : Said) → is_refusal s ≡ true → (k : ℕ) × (s ≡ refused k)
unfolding is_refusal
turned_is (refused k) e = (k, refl)
turned_is (answered r) e = absurd (false≢true e)
turned_is queued e = absurd (false≢true e)

-- one call as promised on a machine that is in order is one step; a machine of any layout, by what it means and how it is judged
pub stepped_by : {M : Type 0} (b : Bench) (means : M → Gateway) (unfit : M → ℕ) (c : Call) (m m' : M) (said : Said) → unfit m ≡ 0
    → said ≡ (step b (means m) c).said → (is_refusal said ≡ true → m' ≡ m) → (is_refusal said ≡ false → unfit m' ≡ 0)
    → (is_refusal said ≡ false → means m' ≡ (step b (means m) c).next) → (means m' ≡ (step b (means m) c).next) × (unfit m' ≡ 0)
stepped_by b means unfit c m m' said u says refusal sound after = by_said (is_refusal said) refl
  where
    by_said : (t : Bool) → is_refusal said ≡ t → (means m' ≡ (step b (means m) c).next) × (unfit m' ≡ 0)
    by_said true e =
        let k = turned_is said e in
        let n = refusal_changes_nothing b (means m) c k.0 (sym says ∙ k.1) in
        (rw (refusal e) (sym n), rw (refusal e) u)
    by_said false e = (after e, sound e)

pub record Stepped (b : Bench) (c : Call) (m : Machine) (said : Said) (m' : Machine) : Type 0 where
  pub says : said ≡ (step b (meaning b m) c).said
  pub means : meaning b m' ≡ (step b (meaning b m) c).next
  pub fit : unfit b m' ≡ 0

pub stepped : (b : Bench) (c : Call) (m : Machine) (said : Said) (m' : Machine) → unfit b m ≡ 0 → Obeyed b c m said m' → Stepped b c m said
    m'
unfolding expected
stepped b c m said m' u o =
    let d : Does b (step b (meaning b m) c) m said m' = rw (eq-eqb (unfit b m) 0 u) at o in
    let r = stepped_by b (meaning b) (unfit b) c m m' said u d.says d.refusal d.sound d.means in
    record { says = d.says; means = r.0; fit = r.1 }

-- ---- a chain is a run: the same lines at every node, the same end; and no call of it is refused by 1 or 2
module _ (b : Bench) where
  pub chain_lines : (i : ℕ) (m : Machine) (hs : List Exchange) → unfit b m ≡ 0 → Chain b m hs
      → lines b i hs ≡ log b i (meaning b m) (calls hs)
  unfolding lines log Chain line
  chain_lines i m [] u c = refl
  chain_lines i m (h ∷ hs) u c =
      let s = stepped b h.call m h.said h.after u c.0 in
      let r : lines b i hs ≡ log b i (step b (meaning b m) h.call).next (calls hs) =
      chain_lines i h.after hs s.fit c.1 ∙ ap (λ (g : Gateway). log b i g (calls hs)) s.means in
      cc

  pub chain_ends : (m : Machine) (hs : List Exchange) → unfit b m ≡ 0 → Chain b m hs
      → meaning b (ended m hs) ≡ run b (meaning b m) (calls hs)
  unfolding ended run Chain
  chain_ends m [] u c = refl
  chain_ends m (h ∷ hs) u c =
      let s = stepped b h.call m h.said h.after u c.0 in
      chain_ends h.after hs s.fit c.1 ∙ ap (λ (g : Gateway). run b g (calls hs)) s.means

  pub chain_fit : (m : Machine) (hs : List Exchange) → unfit b m ≡ 0 → Chain b m hs → unfit b (ended m hs) ≡ 0
  unfolding ended Chain
  chain_fit m [] u c = u
  chain_fit m (h ∷ hs) u c = chain_fit h.after hs (stepped b h.call m h.said h.after u c.0).fit c.1

-- ---- a fresh machine, of the bench `full`: a fresh state has its arrays' lengths
pub zeros_long : length zero_store ≡ full.store
unfolding zero_store
zeros_long = length-replicate {A = ℕ} full.store 0

fresh_lists : lists_ok full zero_store (replicate (node_count full) fresh_node) (replicate (node_count full) nothing) ≡ true
unfolding zero_store laid all_laid formed every bounded charges_of added
fresh_lists = packed_ok full zero_store _ (replicate (node_count full) nothing) (replicate (node_count full) plain) (record {
  size = zeros_long;
  nodes = refl;
  helds = refl;
  spare = full.store;
  words = refl;
  formed = refl;
  bounds = refl;
})

pub fresh_fit : (memory : List ℕ) → length memory ≡ full.readers * full.region → unfit full (fresh_machine memory) ≡ 0
unfolding every node_ok reader_ok plaque_ok reading_ok report_ok name_ok
fresh_fit memory b = fit full (fresh_machine memory) (search (rules, zeros_long, fresh_lists))

in_row : {A : Type 0} (P : A → Type 0) (k i : ℕ) (x d : A) → P x → P d → P (get_or (replicate k x) i d)
in_row P zero i x d p q = q
in_row P (suc k) zero x d p q = p
in_row P (suc k) (suc i) x d p q = in_row P k i x d p q

seen_row : {A : Type 0} (P : A → Type 0) (ok : ℕ → Bool) (slot : ℕ → ℕ) (k n : ℕ) (x d : A) → P x → P d → P
    (seen ok slot d (replicate k x) n)
unfolding seen
seen_row P ok slot k n x d p q = either (ok n)
  where
    either : (t : Bool) → P (cond t (get_or (replicate k x) (slot n) d) d)
    either true = in_row P k (slot n) x d p q
    either false = q

nodes_row : (w : List ℕ) (k : ℕ) → nodes_in w (replicate k fresh_node) ≡ replicate k plain
unfolding nodes_in cuts past
nodes_row w zero = refl
nodes_row w (suc k) = ap (λ (l : List M.Node). plain ∷ l) (nodes_row w k)

pub fresh_means : (b : Bench) (memory : List ℕ) → meaning b (fresh_machine memory) ≡ fresh (region_of b memory)
unfolding meaning fresh nodes_of readers_of reader_of field_of mode_of
fresh_means b memory =
    let ns : seen (is_node b) (node_slot b) plain (nodes_in zero_store (replicate (node_count full) fresh_node)) ≡ (λ (n : ℕ). plain) =
    ap (seen (is_node b) (node_slot b) plain) (nodes_row zero_store (node_count full))
    ∙ fun_ext (λ n. seen_row (λ y. y ≡ plain) (is_node b) (node_slot b) (node_count full) n plain plain refl refl) in
    let rs : (n : ℕ) → reader_of (seen (is_reader b) reader_slot fresh_reader (replicate full.readers fresh_reader) n) (region_of b memory n)
    ≡ record { field = M.empty; mode = M.off; region = region_of b memory n } =
    λ n. seen_row (λ y. reader_of y (region_of b memory n) ≡ record { field = M.empty; mode = M.off; region = region_of b memory n })
    (is_reader b) reader_slot full.readers n fresh_reader fresh_reader refl refl in
    cc (ns, fun_ext rs)

-- ---- demand 3 of the code: the lines of any chain from a fresh machine, those of other readers' calls left out, are the struck-out run's
module _ (i : ℕ) (memory : List ℕ) (bytes : length memory ≡ full.readers * full.region) (hs : List Exchange)
    (chain : Chain full (fresh_machine memory) hs) where
  pub fresh_lines : lines full i hs ≡ log full i (fresh (region_of full memory)) (calls hs)
  fresh_lines =
      chain_lines full i (fresh_machine memory) hs (fresh_fit memory bytes) chain
      ∙ ap (λ (g : Gateway). log full i g (calls hs)) (fresh_means full memory)

  pub struck_lines : Ease full i (fresh (region_of full memory)) (calls hs)
      → kept (λ l. stays full i l.call) (lines full i hs) ≡ log full i (fresh (region_of full memory)) (struck full i (calls hs))
  struck_lines z = ap (kept (λ (l : Line). stays full i l.call)) fresh_lines ∙ strike_out full full_sound i (region_of full memory)
      (calls hs) z

pub struck_chain : (i : ℕ) (memory : List ℕ) → length memory ≡ full.readers * full.region → (hs js : List Exchange)
    → Chain full (fresh_machine memory) hs → Chain full (fresh_machine memory) js → calls js ≡ struck full i (calls hs)
    → Ease full i (fresh (region_of full memory)) (calls hs) → kept (λ l. stays full i l.call) (lines full i hs) ≡ lines full i js
struck_chain i memory bytes hs js c d e z =
    struck_lines i memory bytes hs c z
    ∙ sym (fresh_lines i memory bytes js d ∙ ap (log full i (fresh (region_of full memory))) e)
