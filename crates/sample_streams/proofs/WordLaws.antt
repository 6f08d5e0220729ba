-- Words that are drawn part by part.
use Rattle.std.proofs.Common.{◌≡◌, ◌≢◌, ℕ, ◌+◌, ◌-◌, ◌*◌, ◌%◌, ◌^◌, ◌<◌, ◌≤◌, inl, inr, List, ◌++◌, length, take, get_or, length-append, arith, sym, ap, ◌∙◌, below_more, get_or-set_same, get_or-set_other}
use Rattle.std.specs.Prelude.{slice_set}
use Rattle.std.proofs.Math.Nat.{mod-add-mod, mod-eq_of_lt}
use Rattle.std.proofs.lemmas.Bool.{cases_lt}
use Rattle.std.proofs.lemmas.List.{get_or-take, get_or_append_left, get_or-append_right, length-take, length-take-le}
use Rattle.std.proofs.lemmas.Slice.{take-put_mid}
use borrow.Rule.Slice.PartMut.{put_mid}
use Rattle.rand_chacha.specs.ChaCha.{ChaCha, word_at}
use Rattle.sample_streams.specs.Words.{AreNext, passed}

-- the places behind so many words, and so many more
wraps : (place n k : ℕ) → ((place + n) % 2 ^ 68 + k) % 2 ^ 68 ≡ (place + (n + k)) % 2 ^ 68
wraps place n k = mod-add-mod (place + n) (2 ^ 68) k ∙ ap (λ p. p % 2 ^ 68) (let e : place + n + k ≡ place + (n + k) = omega arith in e)

-- a generator behind words and behind more is behind all of them
pub passed-more : (g at next : ChaCha) (n m : ℕ) → at ≡ passed n g → next ≡ passed m at → next ≡ passed (n + m) g
passed-more g at next n m one two =
    two ∙ ap (passed m) one ∙ ap (λ p. record g { word_pos = p }) (wraps g.word_pos n m)

-- the next words stand behind those that were drawn before
pub next-more : (g at : ChaCha) (n m k : ℕ) (words part : List ℕ)
    → at ≡ passed n g
    → n ≤ length words
    → length part ≡ m
    → AreNext g n words
    → AreNext at m part
    → AreNext g (n + m) (put_mid n k words part)
next-more g at n m k words part is room size before behind = record {
  each = λ i below.
      elim (cases_lt i n) [
        | inl early ↦ first i early ∙ before.each i early
        | inr late ↦ last i below late ∙ behind.each (i - n) (omega arith)
            ∙ ap (λ (p : ChaCha). word_at 4 p.key p.stream ((p.word_pos + (i - n)) % 2 ^ 68)) is
            ∙ ap (λ p. word_at 4 g.key g.stream p) (wraps g.word_pos n (i - n) ∙ ap (λ j. (g.word_pos + j) % 2 ^ 68) (let e : n + (i - n) ≡ i = omega arith in e))
      ];
  small = λ i below.
      elim (cases_lt i n) [
        | inl early ↦ rw (first i early) (before.small i early)
        | inr late ↦ rw (last i below late) (behind.small (i - n) (omega arith))
      ];
}
  where
    whole : take (n + m) (put_mid n k words part) ≡ take n words ++ part
    whole = take-put_mid n k words part (n + m) (omega arith) room

    at_all : (i : ℕ) → i < n + m → get_or (put_mid n k words part) i 0 ≡ get_or (take n words ++ part) i 0
    at_all i below = sym (get_or-take (n + m) (put_mid n k words part) i 0 below) ∙ ap (λ l. get_or l i 0) whole

    first : (i : ℕ) → i < n → get_or (put_mid n k words part) i 0 ≡ get_or words i 0
    first i early =
        at_all i (omega arith) ∙ get_or_append_left (take n words) part 0 i (omega (arith, length-take-le n words room)) ∙ get_or-take n words i 0 early

    last : (i : ℕ) → i < n + m → n ≤ i → get_or (put_mid n k words part) i 0 ≡ get_or part (i - n) 0
    last i below late = at_all i below ∙ get_or-append_right (take n words) part n i 0 (length-take-le n words room) late

-- one word more
pub next-one : (g at : ChaCha) (n word : ℕ) (words : List ℕ)
    → at ≡ passed n g
    → n < length words
    → word ≡ word_at 4 at.key at.stream at.word_pos
    → word < 2 ^ 32
    → AreNext g n words
    → AreNext g (n + 1) (slice_set words n word)
next-one g at n word words is room drawn narrow before = record {
  each = below_more _ _ (λ k l. other k l ∙ before.each k l)
      (get_or-set_same words n word 0 room ∙ drawn ∙ ap (λ (p : ChaCha). word_at 4 p.key p.stream p.word_pos) is);
  small = below_more _ _ (λ k l. rw (other k l) (before.small k l)) (rw (get_or-set_same words n word 0 room) narrow);
}
  where
    other : (k : ℕ) → k < n → get_or (slice_set words n word) k 0 ≡ get_or words k 0
    other k l = let ne : k ≢ n = omega arith in get_or-set_other words n k word 0 ne

-- what follows the words doesn't matter
next-head : (g : ChaCha) (n : ℕ) (part rest : List ℕ) → length part ≡ n → AreNext g n part → AreNext g n (part ++ rest)
next-head g n part rest size next = record {
  each = λ k l. get_or_append_left part rest 0 k (omega arith) ∙ next.each k l;
  small = λ k l. rw (get_or_append_left part rest 0 k (omega arith)) (next.small k l);
}

-- there was room for them
pub room-behind : (n m k : ℕ) (words part : List ℕ) → n ≤ length words → length part ≡ m → n + m ≤ length (put_mid n k words part)
room-behind n m k words part room size =
    omega (
      arith,
      ap length (take-put_mid n k words part (n + m) (omega arith) room),
      length-append (take n words) part,
      length-take-le n words room,
      length-take (n + m) (put_mid n k words part),
    )

-- four parts of one size, each drawn behind the one before
pub next-parts : (g one two three : ChaCha) (n : ℕ) (words a b c d : List ℕ)
    → one ≡ passed n g
    → two ≡ passed n one
    → three ≡ passed n two
    → length a ≡ n
    → length b ≡ n
    → length c ≡ n
    → length d ≡ n
    → AreNext g n a
    → AreNext one n b
    → AreNext two n c
    → AreNext three n d
    → AreNext g (n + n + n + n) (put_mid (n + n + n) n (put_mid (n + n) n (put_mid n n (a ++ words) b) c) d)
next-parts g one two three n words a b c d is_one is_two is_three la lb lc ld na nb nc nd =
    let at_two = passed-more g one two n n is_one is_two in
    let at_three = passed-more g two three (n + n) n at_two is_three in
    let first = put_mid n n (a ++ words) b in
    let second = put_mid (n + n) n first c in
    let long : n ≤ length (a ++ words) = omega (arith, length-append a words) in
    let first_long = room-behind n n n (a ++ words) b long lb in
    next-more g three (n + n + n) n n second d at_three (room-behind (n + n) n n first c first_long lc) ld
    (next-more g two (n + n) n n first c at_two first_long lc
    (next-more g one n n n (a ++ words) b is_one long lb (next-head g n a words la na) nb) nc) nd

-- no word is drawn yet
pub passed-none : (g : ChaCha) → g.word_pos < 2 ^ 68 → g ≡ passed 0 g
passed-none g within =
    let e : g.word_pos + 0 ≡ g.word_pos = omega arith in
    ap (λ p. record g { word_pos = p }) (sym (ap (λ p. p % 2 ^ 68) e ∙ mod-eq_of_lt within))

pub next-none : (g : ChaCha) (words : List ℕ) → AreNext g 0 words
next-none g words = record { each = λ k l. absurd (omega arith); small = λ k l. absurd (omega arith) }

-- the block behind a lot
pub block-behind : (block place drawn : ℕ) → block * 16 ≡ (place + drawn) % 2 ^ 68 → (block + 4) % 2 ^ 64 * 16 ≡ (place + (drawn + 64)) % 2 ^ 68
block-behind block place drawn is =
    let more : (block + 4) % 2 ^ 64 * 16 ≡ (block * 16 + 64) % 2 ^ 68 = omega arith in
    more ∙ ap (λ p. (p + 64) % 2 ^ 68) is ∙ wraps place drawn 64
