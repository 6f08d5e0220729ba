-- What the words tell of a gate, and what a mark makes of one.
use Rattle.std.proofs.Common.{◌≡◌, ℕ, ◌+◌, ◌*◌, ◌/◌, ◌%◌, ◌^◌, ◌<◌, ◌≤◌, ◌==◌, Bool, true, false, refl, ap, sym, ◌∙◌, arith, bit_or}
use mir.Val.{bool_byte}
use Rattle.std.specs.Int.Bits.{or_zero_r}
use Rattle.std.proofs.lemmas.Nat.{or_block}
use Rattle.campaign_core.specs.declared.gate.Gate.{Gate}
use Rattle.turn_book.specs.Words.{bit, gate_word, turn_word, IsGate}

pub word_is : (g : Gate) → gate_word g ≡ g.next + 1048576 * (g.target + 1048576 * (bit g.sealed + 2 * bit g.cancelled))
unfolding gate_word
word_is g = refl

bit_small : (b : Bool) → bit b ≤ 1
bit_small true = omega arith
bit_small false = omega arith

pub bit_same : (b c : Bool) → bit b ≡ bit c → b ≡ c
bit_same true true e = refl
bit_same true false e = absurd (omega arith)
bit_same false true e = absurd (omega arith)
bit_same false false e = refl

gate_is : (n m t u : ℕ) (s r c d : Bool) → n ≡ m → t ≡ u → s ≡ r → c ≡ d
    → ◌≡◌ {A = Gate} (record { next = n; target = t; sealed = s; cancelled = c }) (record { next = m; target = u; sealed = r; cancelled = d })
gate_is n m t u s r c d e f g h = rw (e, f, g, h) refl

-- two parts of a number that are told apart
low_same : (a b x y : ℕ) → a < 1048576 → b < 1048576 → a + 1048576 * x ≡ b + 1048576 * y → (a ≡ b) × (x ≡ y)
low_same a b x y la lb e = (omega arith, omega arith)

pub word_small : (g : Gate) → IsGate g → gate_word g < 2 ^ 42
word_small g small = omega (arith, word_is g, small.0, small.1, bit_small g.sealed, bit_small g.cancelled)

pub word_same : (g h : Gate) → IsGate g → IsGate h → gate_word g ≡ gate_word h → g ≡ h
word_same g h sg sh e =
    let first = low_same g.next h.next (g.target + 1048576 * (bit g.sealed + 2 * bit g.cancelled)) (h.target + 1048576 * (bit h.sealed + 2 * bit h.cancelled))
    (omega (arith, sg.0, sg.1)) (omega (arith, sh.0, sh.1)) (sym (word_is g) ∙ (e ∙ word_is h)) in
    let second = low_same g.target h.target (bit g.sealed + 2 * bit g.cancelled) (bit h.sealed + 2 * bit h.cancelled) (omega (arith, sg.1)) (omega (arith, sh.1)) first.1 in
    let s : bit g.sealed ≡ bit h.sealed = omega (arith, second.1, bit_small g.sealed, bit_small h.sealed) in
    let c : bit g.cancelled ≡ bit h.cancelled = omega (arith, second.1, bit_small g.sealed, bit_small h.sealed) in
    gate_is g.next h.next g.target h.target g.sealed h.sealed g.cancelled h.cancelled first.0 second.0 (bit_same g.sealed h.sealed s) (bit_same g.cancelled h.cancelled c)

-- ---- marks

low_of : Gate → ℕ
low_of g = g.next + 1048576 * g.target

word_split : (g : Gate) → gate_word g ≡ (bit g.sealed + 2 * bit g.cancelled) * 2 ^ 40 + low_of g
unfolding low_of
word_split g = omega (arith, word_is g)

low_small : (g : Gate) → IsGate g → low_of g < 2 ^ 40
unfolding low_of
low_small g small = omega (arith, small.0, small.1)

seal_marks : (s c : Bool) → bit_or (bit s + 2 * bit c) 1 ≡ 1 + 2 * bit c
seal_marks true true = refl
seal_marks true false = refl
seal_marks false true = refl
seal_marks false false = refl

cancel_marks : (s c : Bool) → bit_or (bit s + 2 * bit c) 2 ≡ bit s + 2
cancel_marks true true = refl
cancel_marks true false = refl
cancel_marks false true = refl
cancel_marks false false = refl

pub word_sealed : (g : Gate) → IsGate g → bit_or (gate_word g) (2 ^ 40) ≡ gate_word (record { next = g.next; target = g.target; sealed = true; cancelled = g.cancelled })
unfolding low_of
word_sealed g small =
    let marked : Gate = record { next = g.next; target = g.target; sealed = true; cancelled = g.cancelled } in
    let block = or_block 40 (bit g.sealed + 2 * bit g.cancelled) 1 (low_of g) 0 (low_small g small) (omega arith) in
    let mask : 1 * 2 ^ 40 + 0 ≡ 2 ^ 40 = omega arith in
    let found = ap (λ n. bit_or n (2 ^ 40)) (word_split g) ∙ (ap (bit_or ((bit g.sealed + 2 * bit g.cancelled) * 2 ^ 40 + low_of g)) (sym mask) ∙ block) in
    found ∙ (ap (λ n. n * 2 ^ 40 + bit_or (low_of g) 0) (seal_marks g.sealed g.cancelled) ∙ (ap (λ n. (1 + 2 * bit g.cancelled) * 2 ^ 40 + n) (or_zero_r (low_of g)) ∙ omega (arith, word_is marked)))

pub word_cancelled : (g : Gate) → IsGate g → bit_or (gate_word g) (2 ^ 41) ≡ gate_word (record { next = g.next; target = g.target; sealed = g.sealed; cancelled = true })
unfolding low_of
word_cancelled g small =
    let marked : Gate = record { next = g.next; target = g.target; sealed = g.sealed; cancelled = true } in
    let block = or_block 40 (bit g.sealed + 2 * bit g.cancelled) 2 (low_of g) 0 (low_small g small) (omega arith) in
    let mask : 2 * 2 ^ 40 + 0 ≡ 2 ^ 41 = omega arith in
    let found = ap (λ n. bit_or n (2 ^ 41)) (word_split g) ∙ (ap (bit_or ((bit g.sealed + 2 * bit g.cancelled) * 2 ^ 40 + low_of g)) (sym mask) ∙ block) in
    found ∙ (ap (λ n. n * 2 ^ 40 + bit_or (low_of g) 0) (cancel_marks g.sealed g.cancelled) ∙ (ap (λ n. (bit g.sealed + 2) * 2 ^ 40 + n) (or_zero_r (low_of g)) ∙ omega (arith, word_is marked)))

-- ---- the turn

pub turn_same : (out : Bool) (n m : ℕ) → turn_word out n ≡ turn_word false m → (out ≡ false) × (n ≡ m)
turn_same true n m e = absurd (omega arith)
turn_same false n m e = (refl, omega arith)

-- ---- the gate of a word

split_low : (w a x : ℕ) → a < 1048576 → w ≡ a + 1048576 * x → (w % 1048576 ≡ a) × (w / 1048576 ≡ x)
split_low w a x small e = (omega arith, omega arith)

first_mark : (s c : Bool) → ((bit s + 2 * bit c) % 2 == 1) ≡ s
first_mark true true = refl
first_mark true false = refl
first_mark false true = refl
first_mark false false = refl

second_mark : (s c : Bool) → ((bit s + 2 * bit c) / 2 == 1) ≡ c
second_mark true true = refl
second_mark true false = refl
second_mark false true = refl
second_mark false false = refl

pub gate_back : (w : ℕ) (g : Gate) → IsGate g → w ≡ gate_word g
    → ◌≡◌ {A = Gate} (record { next = w % 1048576; target = w / 1048576 % 1048576; sealed = w / 1048576 / 1048576 % 2 == 1; cancelled = w / 1048576 / 1048576 / 2 == 1 }) g
gate_back w g small e =
    let marks = bit g.sealed + 2 * bit g.cancelled in
    let first = split_low w g.next (g.target + 1048576 * marks) (omega (arith, small.0, small.1)) (e ∙ word_is g) in
    let second = split_low (w / 1048576) g.target marks (omega (arith, small.1)) first.1 in
    gate_is (w % 1048576) g.next (w / 1048576 % 1048576) g.target (w / 1048576 / 1048576 % 2 == 1) g.sealed (w / 1048576 / 1048576 / 2 == 1) g.cancelled
    first.0 second.0
    (ap (λ m. m % 2 == 1) second.1 ∙ first_mark g.sealed g.cancelled)
    (ap (λ m. m / 2 == 1) second.1 ∙ second_mark g.sealed g.cancelled)

pub byte_is : (b : Bool) → bool_byte b ≡ bit b
byte_is true = refl
byte_is false = refl
