-- What a gateway makes, a reader of responses accepts, in either form, and reads as an answer of its node.
-- Assumes nothing.
use Rattle.units.proofs.Common.{◌≡◌, refl, true, false, Bool, ◌||◌, List, [], ◌∷◌, ℕ, ◌≤◌, ◌<◌, le_refl, arith, eqb, leb, length, eqb-true}
use Rattle.units.proofs.Common.{leb-true, is_stamp, and_true}
use Rattle.units.specs.declared.Form.{Form}
use Rattle.units.specs.declared.stamp.Stamp.{Stamp}
use Rattle.meaning.proofs.Terms.{Bench, hub, is_reader, is_node, error_wrong, read_response, response_body, shown, response_words, shown_count}
use Rattle.meaning.proofs.Terms.{Node, answer, tag_not_found}
use Rattle.meaning.specs.declared.packet.Response.{Response}
use Rattle.meaning.specs.declared.packet.ResponseRead.TheVariants.{Accepted}
use Rattle.meaning.proofs.ResponseLaws.{writes, read_responded}
use Rattle.demands.specs.Sound.{Sound}

-- a node's number is a byte
node_byte : (b : Bench) → Sound b → (n : ℕ) → is_node b n ≡ true → n < 256
node_byte b ok n e = by_reader (is_reader b n) refl e
  where
    by_reader : (t : Bool) → is_reader b n ≡ t → (t || eqb n hub) ≡ true → n < 256
    by_reader true p q = omega (arith, ok, leb-true n b.readers (and_true (leb 1 n) (leb n b.readers) p).1)
    by_reader false p q = omega (arith, eqb-true n hub q)

-- what a response says of node n with the count of x
abbrev pub saying : Bool → ℕ → ℕ → Node → Stamp → Response
saying error echo n x t = record { error = error; echo = echo; count = x.count; node = n; stamp = t }

module _ (b : Bench) (ok : Sound b) (n : ℕ) (x : Node) (t : Stamp) (known : is_node b n ≡ true) (good : is_stamp t ≡ true) where
  made_read : (f : Form) (error : Bool) (echo : ℕ) (s : List ℕ) → echo < 256 → length s ≤ 255 → error_wrong error (length s) ≡ false
      → read_response b f (shown f n (response_body (saying error echo n x t) s)) ≡ Accepted (saying error echo n x t)
      (record { 0 = length s })
  unfolding response_words
  made_read f error echo s small short e =
      read_responded b f (saying error echo n x t) s (shown_count f n (length s)) small (node_byte b ok n known)
      (writes b f (saying error echo n x t) (length s) (shown_count f n (length s))
      (record { stamp = good; node = known; short = short; error = e; fits = le_refl _ }))

  -- an answer, as it is collected
  pub answer_read : (f : Form) (echo : ℕ) (s : List ℕ) → echo < 256 → length s ≤ 255
      → read_response b f (shown f n (answer n x t echo s)) ≡ Accepted (saying false echo n x t) (record { 0 = length s })
  unfolding answer error_wrong
  answer_read f echo s small short = made_read f false echo s small short refl

  pub tag_not_found_read : (f : Form) → read_response b f (shown f n (tag_not_found n x t)) ≡ Accepted (saying true 0xFF n x t)
      (record { 0 = 1 })
  unfolding tag_not_found error_wrong
  tag_not_found_read f = made_read f true 0xFF (7 ∷ []) (omega arith) (omega arith) refl
