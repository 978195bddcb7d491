-- THE ANSWER: how many bits the rules take in the other form, and the definition's three answers: a comment without room, a buffer without room, the
-- sheet. Rests on where rules stand, and on how long they are in either form.
use mathlib.Core.Path.{◌≡◌, sym, ap, ap₂, ◌∙◌, subst}
use mathlib.Core.Option.{none, some}
use mathlib.Core.List.{List, [], ◌∷◌, ◌++◌, flat_map}
use Prim.Native.Nat.{ℕ, ◌+◌, ◌*◌, ◌^◌, ◌≤◌, ◌<◌}
use native.Mathlib.Omega.{arith}
use lib.Dec.{leb}
use lib.ListN.{length, get_or, length-append}
use borrow.Author.Tests.{leb-false}
use Rattle.laws.proofs.Lists.{All-map}
use Rattle.laws.proofs.Passing.{Found, first_found}
use Rattle.definition.specs.Field.{bytes_for, sheet_bits, long_comment, no_room}
use Rattle.definition.specs.Rule.{Rule}
use Rattle.definition.specs.Sheet.{Form, sheet_limits, opening_width, head_width, rule, opening, rules, encode}
use Rattle.definition.specs.Fold.{unwritten, written_into, buffer}
use Rattle.definition.specs.Forms.{first_long_comment, convert_rules}
use Rattle.definition.proofs.Bits.{Bytes}
use Rattle.definition.proofs.SheetRead.{encode-decoded}
use Rattle.definition.proofs.Writing.{written-not, written-fine}
use Rattle.field.proofs.Bytes.{known_bytes}
use Rattle.sheet.specs.Rules.{begun, rules_at, AllBegin}
use Rattle.sheet.specs.Parts.{SheetRead}
use Rattle.sheet.proofs.Begins.{rules-there, all-begin}
use Rattle.item_writer.specs.Written.{RoomFor, Wrote}
use Rattle.item_writer.proofs.Chain.{wrote_then, wrote_as, room_as}
use Rattle.sheet_writer.specs.Frame.{padding}
use Rattle.sheet_writer.proofs.Frame.{framed, packed-length, opening-length, rules-bits}
use Rattle.tables.specs.Rules.{AllCommented}
use Rattle.sheet.proofs.RuleBits.{body_bits, rule-length}

-- ## How long rules are
heads-and-bodies : (form : Form) (rs : List Rule) → length (flat_map (rule form sheet_limits).write rs) ≡ length rs * head_width form + length (flat_map body_bits rs)
unfolding flat_map
heads-and-bodies form [] = omega arith
heads-and-bodies form (r ∷ rs) =
    omega (
      arith,
      length-append ((rule form sheet_limits).write r) (flat_map (rule form sheet_limits).write rs),
      length-append (body_bits r) (flat_map body_bits rs),
      rule-length form r,
      heads-and-bodies form rs,
    )

pub rules-length : (form : Form) (rs : List Rule) → length ((rules form sheet_limits).write rs) ≡ opening_width form + length rs * head_width form + length (flat_map body_bits rs)
rules-length form rs =
    ap length (rules-bits form rs)
    ∙ omega (
      arith,
      length-append ((opening form sheet_limits).write (length rs)) (flat_map (rule form sheet_limits).write rs),
      opening-length form (length rs),
      heads-and-bodies form rs,
    )

-- ## The definition's answers
module _ (to : Form) (room : ℕ) (rs : List Rule) where
  pub converts-not : (k : ℕ) → first_long_comment to rs ≡ some k → convert_rules to sheet_limits room rs ≡ unwritten long_comment k
  unfolding convert_rules
  converts-not k e = rw (e, convert_rules)

  module _ (e : first_long_comment to rs ≡ none) where
    written : convert_rules to sheet_limits room rs ≡ written_into room (encode to sheet_limits rs)
    unfolding convert_rules
    written = rw (e, convert_rules)

    -- every comment has room
    pub all-commented : AllCommented to rs
    unfolding first_long_comment
    all-commented = All-map (λ r f. leb-false (2 ^ to.comment) r.state.comment f) rs
        (subst (Found (λ r. leb (2 ^ to.comment) r.state.comment) rs) e (first_found (λ r. leb (2 ^ to.comment) r.state.comment) rs))

    pub encoded-length : length (encode to sheet_limits rs) ≡ bytes_for (length ((rules to sheet_limits).write rs))
    unfolding encode
    encoded-length = packed-length ((rules to sheet_limits).write rs)

    pub converts-short : (bytes : ℕ) → length (encode to sheet_limits rs) ≡ bytes → room < bytes → convert_rules to sheet_limits room rs ≡ unwritten no_room bytes
    converts-short bytes l h = written ∙ written-not room (encode to sheet_limits rs) (omega (arith, l, h)) ∙ ap (unwritten no_room) l

    pub converts-fine : (bytes : ℕ) → length (encode to sheet_limits rs) ≡ bytes → bytes ≤ room
        → convert_rules to sheet_limits room rs ≡ record { code = 0; bytes = length (encode to sheet_limits rs); place = 0; result = encode to sheet_limits rs }
    converts-fine bytes l h = written ∙ written-fine room (encode to sheet_limits rs) (omega (arith, l, h))

-- ## A sheet that was read
module _ (form to : Form) (sheet begins : List ℕ) (bytes : Bytes sheet) (rs : List Rule) (end count : ℕ) (read : SheetRead form sheet begins rs end) (many : count ≡ length rs) where
  pub rules-begun : AllBegin form (sheet_bits sheet) begins count
  rules-begun =
      subst (λ b. AllBegin form (sheet_bits sheet) b count) (sym read.noted)
      (subst (AllBegin form (sheet_bits sheet) (begun form sheet read.before)) (sym many)
      (all-begin form read.narrow sheet bytes rs end read.read read.before read.room))

  -- the first comment without room is that of the rules
  pub long-told : first_long_comment to (rules_at form (sheet_bits sheet) begins count) ≡ first_long_comment to rs
  long-told =
      ap (first_long_comment to)
      (ap₂ (rules_at form (sheet_bits sheet)) read.noted many ∙ rules-there form read.narrow sheet bytes rs end read.read read.before read.room)

  -- the bits that the rules take: those of the sheet, with other heads
  whole : end ≡ opening_width form + count * head_width form + length (flat_map body_bits rs)
  whole = (encode-decoded form sheet_limits sheet bytes rs end read.read).2 ∙ rules-length form rs ∙ ap (λ n. opening_width form + n * head_width form + length (flat_map body_bits rs)) (sym many)

  pub heads-inside : opening_width form + count * head_width form ≤ end
  heads-inside = omega (arith, whole)

  pub moved_length : (size : ℕ) → size + opening_width form + count * head_width form ≡ end + opening_width to + count * head_width to → length ((rules to sheet_limits).write rs) ≡ size
  moved_length size e =
      rules-length to rs ∙ ap (λ n. opening_width to + n * head_width to + length (flat_map body_bits rs)) (sym many) ∙ omega (arith, whole, e)

  -- the sheet's bits: the opening, then the rules
  pub laid : (rules to sheet_limits).write rs ≡ (opening to sheet_limits).write count ++ flat_map (rule to sheet_limits).write rs
  laid = rules-bits to rs ∙ ap (λ n. (opening to sheet_limits).write n ++ flat_map (rule to sheet_limits).write rs) (sym many)

  -- where the bytes have room, the opening and the rules have
  pub room-for-all : (size room : ℕ) → length ((rules to sheet_limits).write rs) ≡ size → bytes_for size ≤ room → size < 2 ^ 26
      → RoomFor room 0 ((opening to sheet_limits).write count ++ flat_map (rule to sheet_limits).write rs)
  room-for-all size room l enough low =
      room_as laid (record { inside = omega (arith, l, enough); low = omega (arith, l, low) })

  -- the opening, the rules and the padding written one behind the other are the sheet in the other form
  pub all-written : {out mid laid new : List ℕ} {first behind next : ℕ} → Wrote out 0 ((opening to sheet_limits).write count) mid first
      → Wrote mid first (flat_map (rule to sheet_limits).write rs) laid behind → Wrote laid behind (padding behind) new next → bytes_for (length ((rules to sheet_limits).write rs)) ≤ length out
      → ((j : ℕ) → get_or out j 0 < 256) → ((j : ℕ) → get_or new j 0 < 256) → new ≡ buffer (encode to sheet_limits rs) out
  unfolding encode
  all-written {out} {new = new} {behind = behind} {next = next} opened ruled padded room known known' =
      let ws = (rules to sheet_limits).write rs in
      let all = wrote_then opened ruled in
      let long : behind ≡ length ws = omega (arith, all.behind, ap length laid) in
      framed out new ws (known_bytes out known) (known_bytes new known') next
      (wrote_as (ap (ws ++◌) (ap padding (sym long)) ∙ ap (◌++ padding behind) laid) (wrote_then all padded)) room
