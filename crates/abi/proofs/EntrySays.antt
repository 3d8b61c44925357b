-- What tp_raw_entry answers, by the cases of the word: it rests on the definition of what a word says.
use Prim.Native.Nat.{ℕ, ◌+◌, ◌*◌, ◌/◌, ◌%◌, ◌^◌, ◌<◌}
use mathlib.Core.Bool.{Bool, true, false, cond}
use mathlib.Core.List.{List}
use mathlib.Core.Logic.{◌≢◌}
use mathlib.Core.Path.{◌≡◌, refl, sym, ap, ◌∙◌}
use native.Mathlib.Decide.{dec_lt, ℕ_discrete}
use native.Mathlib.Omega.{arith}
use borrow.Author.Tests.{lt-ltb, le-ltb, eq-eqb, ne_eqb}
use lib.Dec.{eqb}
use Rattle.word.specs.Memory.{holds, read_of}
use Rattle.entry.specs.Entry.{bit, table_of, says}
use Rattle.entry.specs.Words.{flag}
use Rattle.entry.specs.declared.Rights.{Rights}
use Rattle.entry.specs.declared.Entry.TheVariants.{Nothing}
use Rattle.abi.specs.Answers.{rights_word}
use Rattle.abi.specs.Entries.{bare_of, silent_of, said_of, said_in, entry_answer}
use Rattle.abi.specs.EntrySays.{Readable, word_there, bare, EntrySays}
use Rattle.abi.specs.Relied.{granted}
use Rattle.abi.proofs.Named.{rights_granted}
use Rattle.abi.proofs.Walked.{rights_told}

-- a bit as a number
flag_bit : (k w : ℕ) → flag (bit k w) ≡ w / 2 ^ k % 2
unfolding flag bit
flag_bit k w = go (ℕ_discrete (w / 2 ^ k % 2) 1)
  where
    go : Dec (w / 2 ^ k % 2 ≡ 1) → cond (eqb (w / 2 ^ k % 2) 1) 1 0 ≡ w / 2 ^ k % 2
    go (yes e) = rw (eq-eqb (w / 2 ^ k % 2) 1 e) (sym e)
    go (no d) = rw (ne_eqb (w / 2 ^ k % 2) 1 d) (omega arith)

rights_few : (g : Rights) → rights_word g < 8
unfolding rights_word flag
rights_few g = go g.writable g.user g.noexec
  where
    go : (a b c : Bool) → cond a 1 0 + 2 * cond b 1 0 + 4 * cond c 1 0 < 8
    go true true true = omega arith
    go true true false = omega arith
    go true false true = omega arith
    go true false false = omega arith
    go false true true = omega arith
    go false true false = omega arith
    go false false true = omega arith
    go false false false = omega arith

rights_same : (g : Rights) → granted (rights_word g) ≡ g
rights_same g = sym (rights_granted (rights_word g)) ∙ rights_told g

module _ (s : List ℕ) (origin table level index : ℕ) where
  -- what is read where there is such an entry, and where there is none
  there : Readable s origin table level index → entry_answer s origin table level index ≡ said_of (word_there s origin table index) (says level (word_there s origin table index))
  unfolding entry_answer read_of said_in
  there r = simp (lt-ltb level 4 r.of_four, lt-ltb index 512 r.of_512, r.inside)

  none_there : ¬ Readable s origin table level index → entry_answer s origin table level index ≡ bare 2
  unfolding entry_answer read_of said_in bare_of
  none_there n = go (dec_lt level 4) (dec_lt index 512) (holds s origin (table_of table)) refl
    where
      go : Dec (level < 4) → Dec (index < 512) → (b : Bool) → holds s origin (table_of table) ≡ b → entry_answer s origin table level index ≡ bare 2
      go (no u) i b e = simp (le-ltb level 4 (omega arith))
      go (yes u) (no i) b e = simp (lt-ltb level 4 u, le-ltb index 512 (omega arith))
      go (yes u) (yes i) false e = simp (lt-ltb level 4 u, lt-ltb index 512 i, e)
      go (yes u) (yes i) true e = absurd (n (record { of_four = u; of_512 = i; inside = e }))

  -- a word whose bit 0 is 0 says nothing
  absent_says : (w : ℕ) → w % 2 ≡ 0 → (bit 0 w ≡ false) × (says level w ≡ Nothing)
  unfolding bit says
  absent_says w e = let d : w / 2 ^ 0 % 2 ≢ 1 = λ f. omega arith in (ne_eqb _ _ d, rw (ne_eqb (w / 2 ^ 0 % 2) 1 d))

  present : (w : ℕ) → w % 2 ≡ 1 → bit 0 w ≡ true
  unfolding bit
  present w e = eq-eqb (w / 2 ^ 0 % 2) 1 (omega arith)

  -- WHAT tp_raw_entry ANSWERS
  pub entry_says : EntrySays s origin table level index
  unfolding said_of silent_of bare_of
  entry_says = record {
    outside = none_there;
    absent = λ r e. let a = absent_says (word_there s origin table index) e in there r ∙ rw a.1 (rw a.0);
    damaged = λ r e n. there r ∙ rw n (rw (present (word_there s origin table index) e));
    page = λ f g r e. let x : entry_answer s origin table level index ≡ record { kind = 1; address = f; rights = rights_word g; marks = flag (bit 5 (word_there s origin table index)) + 2 * flag (bit 6 (word_there s origin table index)) } = there r ∙ rw e in record {
      kind_is = ap (λ y. y.kind) x;
      address_is = ap (λ y. y.address) x;
      rights_are = ap (λ y. granted y.rights) x ∙ rights_same g;
      rights_few = rw x (rights_few g);
      marks_are = ap (λ y. y.marks) x ∙ rw (flag_bit 5 (word_there s origin table index), flag_bit 6 (word_there s origin table index));
    };
    names = λ t g r e. let x : entry_answer s origin table level index ≡ record { kind = 3; address = 4096 * t; rights = rights_word g; marks = flag (bit 5 (word_there s origin table index)) } = there r ∙ rw e in record {
      kind_is = ap (λ y. y.kind) x;
      address_is = ap (λ y. y.address) x;
      rights_are = ap (λ y. granted y.rights) x ∙ rights_same g;
      rights_few = rw x (rights_few g);
      marks_are = ap (λ y. y.marks) x ∙ flag_bit 5 (word_there s origin table index);
    };
  }
