-- NEW_ENTRY: each clause that the source promises of it, for all its arguments; and the words that we write are those for the arguments that it
-- is ever given.
use Prim.Native.Nat.{ℕ, zero, suc, ◌+◌, ◌*◌, ◌/◌, ◌%◌, ◌^◌, ◌<◌, ◌≤◌}
use mathlib.Core.Bool.{Bool, true, false, not, false≢true}
use mathlib.Core.Logic.{◌≢◌}
use mathlib.Core.Path.{◌≡◌, refl, sym, ap, ◌∙◌, subst}
use native.Mathlib.Omega.{arith}
use Rattle.entry.specs.Entry.{size_of, bit, rights_of, frame_of, table_of, says}
use Rattle.entry.specs.Words.{flag, large_flag, page_word, table_word}
use Rattle.entry.specs.declared.Rights.{Rights}
use Rattle.entry.specs.declared.Entry.TheVariants.{Nothing, Page, Table}
use Rattle.entry.proofs.Fields.{says_absent, says_last, says_table, says_large}
use Rattle.entry.proofs.Levels.{bit_on, bit_off, large_flag_lem}
use Rattle.entry.proofs.Written.{flag_lt, bit_flag}
use Rattle.verus.specs.Entries.{MustBeZero}
use Rattle.verus.specs.NewEntry.{EntryFlags, rights_asked, new_entry, EntryFits, of_page, of_directory, NewEntry}

-- a word by its parts: the flags a, b, c, d and x, what bit 7 is, and the page of its address
abbrev parts : ℕ → ℕ → ℕ → ℕ → ℕ → ℕ → ℕ → ℕ
parts a b c d s p x = 1 + 2 * a + 4 * b + 8 * c + 16 * d + 128 * s + 4096 * p + 2 ^ 63 * x

record EntryFields (a b c d s p x w : ℕ) : Type 0 where
  low : w / 1 % 2 ≡ 1
  one : w / 2 % 2 ≡ a
  two : w / 4 % 2 ≡ b
  three : w / 8 % 2 ≡ c
  four : w / 16 % 2 ≡ d
  five : w / 32 % 2 ≡ 0
  six : w / 64 % 2 ≡ 0
  seven : w / 128 % 2 ≡ s
  number : w / 4096 % 2 ^ 40 ≡ p
  high : w / 2 ^ 63 % 2 ≡ x

entry_fields : (a b c d s p x : ℕ) → a < 2 → b < 2 → c < 2 → d < 2 → s < 2 → x < 2 → p < 2 ^ 40 → EntryFields a b c d s p x (parts a b c d s p x)
entry_fields a b c d s p x ua ub uc ud us ux up = record {
  low = omega arith;
  one = omega arith;
  two = omega arith;
  three = omega arith;
  four = omega arith;
  five = omega arith;
  six = omega arith;
  seven = omega arith;
  number = omega arith;
  high = omega arith;
}

-- a large page's address leaves the bits from 12 up to its size 0
record Padding (l p w : ℕ) : Type 0 where
  pat : w / 4096 % 2 ≡ 0
  padding : w / 8192 % (size_of l / 8192) ≡ 0
  frame : frame_of l w ≡ 4096 * p

padding_1 : (a b c d q x : ℕ) → a < 2 → b < 2 → c < 2 → d < 2 → x < 2 → q < 2 ^ 31 → Padding 1 (512 * q) (parts a b c d 1 (512 * q) x)
unfolding size_of frame_of
padding_1 a b c d q x ua ub uc ud ux u = record { pat = omega arith; padding = omega arith; frame = omega arith }

padding_2 : (a b c d q x : ℕ) → a < 2 → b < 2 → c < 2 → d < 2 → x < 2 → q < 2 ^ 22 → Padding 2 (262144 * q) (parts a b c d 1 (262144 * q) x)
unfolding size_of frame_of
padding_2 a b c d q x ua ub uc ud ux u = record { pat = omega arith; padding = omega arith; frame = omega arith }

module _ (x : EntryFlags) where
  abbrev asked : ℕ → ℕ → ℕ
  asked s p = parts (flag x.is_writable) (flag (not x.is_supervisor)) (flag x.is_writethrough) (flag x.disable_cache) s p (flag x.disable_execute)

  abbrev Fields : ℕ → ℕ → ℕ → Type 0
  Fields s p w = EntryFields (flag x.is_writable) (flag (not x.is_supervisor)) (flag x.is_writethrough) (flag x.disable_cache) s p (flag x.disable_execute) w

  asked_fields : (s p : ℕ) → s < 2 → p < 2 ^ 40 → Fields s p (asked s p)
  asked_fields s p us up = entry_fields _ _ _ _ s p _ (flag_lt x.is_writable) (flag_lt (not x.is_supervisor)) (flag_lt x.is_writethrough) (flag_lt x.disable_cache) us (flag_lt x.disable_execute) up

  asked_rights : (s p w : ℕ) → Fields s p w → rights_of w ≡ rights_asked x
  unfolding rights_of
  asked_rights s p w k = rw (bit_flag 1 w x.is_writable k.one, bit_flag 2 w (not x.is_supervisor) k.two, bit_flag 63 w x.disable_execute k.high)

  -- a page at the last level
  last_entry : (p : ℕ) → p < 2 ^ 40 → NewEntry 0 (4096 * p) true x (asked 0 p)
  last_entry p up = record {
    mb0 = record { at_root = λ o z. absurd (omega arith); padding = λ o z y. absurd (z refl) };
    view = says_last w (omega (arith, k.low)) ∙ ap (λ y. Page y (rights_of w)) frame ∙ ap (Page (4096 * p)) (asked_rights 0 p w k);
    hp_pat = λ z y. absurd (y refl);
    accessed = bit_off 5 w k.five;
    dirty = bit_off 6 w k.six;
    address_bits = omega (arith, k.number);
    present = bit_on 0 w (omega (arith, k.low));
    seven = bit_off 7 w k.seven ∙ sym (unfold large_flag in bit_off 7 0 (omega arith));
    writable = bit_flag 1 w x.is_writable k.one;
    user = bit_flag 2 w (not x.is_supervisor) k.two;
    write_through = bit_flag 3 w x.is_writethrough k.three;
    cache_disabled = bit_flag 4 w x.disable_cache k.four;
    no_execute = bit_flag 63 w x.disable_execute k.high;
  }
    where
      w : ℕ
      w = asked 0 p

      k : Fields 0 p w
      k = asked_fields 0 p (omega arith) up

      frame : frame_of 0 w ≡ 4096 * p
      frame = unfold frame_of size_of in omega (arith, k.number)

  -- a large page, of level l
  large_entry : (l p : ℕ) → l ≢ 0 → l ≤ 2 → p < 2 ^ 40 → Padding l p (asked 1 p) → NewEntry l (4096 * p) true x (asked 1 p)
  large_entry l p n u up pad = record {
    mb0 = record { at_root = λ o z. absurd (omega arith); padding = λ o z y. pad.padding };
    view = says_large l w n u (omega (arith, k.low)) k.seven pad.padding ∙ ap (λ y. Page y (rights_of w)) pad.frame ∙ ap (Page (4096 * p)) (asked_rights 1 p w k);
    hp_pat = λ z y. bit_off 12 w pad.pat;
    accessed = bit_off 5 w k.five;
    dirty = bit_off 6 w k.six;
    address_bits = omega (arith, k.number);
    present = bit_on 0 w (omega (arith, k.low));
    seven = bit_on 7 w (omega (arith, k.seven)) ∙ sym (ap (bit 7) (large_flag_lem l n) ∙ bit_on 7 128 (omega arith));
    writable = bit_flag 1 w x.is_writable k.one;
    user = bit_flag 2 w (not x.is_supervisor) k.two;
    write_through = bit_flag 3 w x.is_writethrough k.three;
    cache_disabled = bit_flag 4 w x.disable_cache k.four;
    no_execute = bit_flag 63 w x.disable_execute k.high;
  }
    where
      w : ℕ
      w = asked 1 p

      k : Fields 1 p w
      k = asked_fields 1 p (omega arith) up

  directory_entry : (l p : ℕ) → l ≢ 0 → p < 2 ^ 40 → NewEntry l (4096 * p) false x (asked 0 p)
  directory_entry l p n up = record {
    mb0 = record { at_root = λ o z. seven; padding = λ o z y. let v : ◌≡◌ {A = Bool} true false = sym y ∙ seven in let k : ◌≡◌ {A = ℕ} 0 1 = cc in absurd (omega arith) };
    view = says_table l w n (omega (arith, k.low)) k.seven ∙ ap (λ y. Table y (rights_of w)) table ∙ ap (Table (4096 * p / 4096)) (asked_rights 0 p w k);
    hp_pat = λ z y. let o : ◌≡◌ {A = ℕ} 0 1 = cc in absurd (omega arith);
    accessed = bit_off 5 w k.five;
    dirty = bit_off 6 w k.six;
    address_bits = omega (arith, k.number);
    present = bit_on 0 w (omega (arith, k.low));
    seven = seven;
    writable = bit_flag 1 w x.is_writable k.one;
    user = bit_flag 2 w (not x.is_supervisor) k.two;
    write_through = bit_flag 3 w x.is_writethrough k.three;
    cache_disabled = bit_flag 4 w x.disable_cache k.four;
    no_execute = bit_flag 63 w x.disable_execute k.high;
  }
    where
      w : ℕ
      w = asked 0 p

      k : Fields 0 p w
      k = asked_fields 0 p (omega arith) up

      seven : bit 7 w ≡ false
      seven = bit_off 7 w k.seven

      table : table_of w ≡ 4096 * p / 4096
      table = unfold table_of in omega (arith, k.number)

  -- NEW_ENTRY
  pub new_entry_lem : (l address : ℕ) (is_page : Bool) → EntryFits l address is_page → NewEntry l address is_page x (new_entry l address is_page x)
  unfolding new_entry large_flag size_of
  new_entry_lem zero address true (of_page u k v) =
      let p : address ≡ 4096 * (address / 4096) = omega arith in
      subst (λ y. NewEntry 0 y true x (new_entry 0 y true x)) (sym p) (last_entry (address / 4096) (omega arith))
  new_entry_lem (suc zero) address true (of_page u k v) =
      let p : address ≡ 4096 * (512 * (address / 2097152)) = omega arith in
      subst (λ y. NewEntry 1 y true x (new_entry 1 y true x)) (sym p)
      (large_entry 1 (512 * (address / 2097152)) (λ z. omega arith) (omega arith) (omega arith)
      (padding_1 _ _ _ _ (address / 2097152) _ (flag_lt x.is_writable) (flag_lt (not x.is_supervisor)) (flag_lt x.is_writethrough) (flag_lt x.disable_cache) (flag_lt x.disable_execute) (omega arith)))
  new_entry_lem (suc (suc zero)) address true (of_page u k v) =
      let p : address ≡ 4096 * (262144 * (address / 1073741824)) = omega arith in
      subst (λ y. NewEntry 2 y true x (new_entry 2 y true x)) (sym p)
      (large_entry 2 (262144 * (address / 1073741824)) (λ z. omega arith) (omega arith) (omega arith)
      (padding_2 _ _ _ _ (address / 1073741824) _ (flag_lt x.is_writable) (flag_lt (not x.is_supervisor)) (flag_lt x.is_writethrough) (flag_lt x.disable_cache) (flag_lt x.disable_execute) (omega arith)))
  new_entry_lem (suc (suc (suc l))) address true (of_page u k v) = absurd (omega arith)
  new_entry_lem l address false (of_directory n u k v) =
      let p : address ≡ 4096 * (address / 4096) = omega arith in
      subst (λ y. NewEntry l y false x (new_entry l y false x)) (sym p) (directory_entry l (address / 4096) n (omega arith))

-- WHAT WE WRITE is that word, for the arguments that new_page_entry passes,
pub page_is_new_entry : (l frame : ℕ) (r : Rights)
    → page_word l frame r ≡ new_entry l frame true (record { is_writable = r.writable; is_supervisor = not r.user; is_writethrough = false; disable_cache = false; disable_execute = r.noexec })
unfolding page_word new_entry flag
page_is_new_entry l frame r = go r.user
  where
    go : (u : Bool) → 1 + 2 * flag r.writable + 4 * flag u + large_flag l + frame + 2 ^ 63 * flag r.noexec
        ≡ 1 + 2 * flag r.writable + 4 * flag (not (not u)) + 8 * flag false + 16 * flag false + large_flag l + frame + 2 ^ 63 * flag r.noexec
    go true = omega arith
    go false = omega arith

-- and for those that new_dir_entry passes.
pub table_is_new_entry : (l p : ℕ)
    → table_word p ≡ new_entry l (4096 * p) false (record { is_writable = true; is_supervisor = false; is_writethrough = false; disable_cache = false; disable_execute = false })
unfolding table_word new_entry flag
table_is_new_entry l p = omega arith

-- LEMMA_ZERO_ENTRY_FACTS: a word that is 0 but for its bits 5 and 6 says nothing, and has no reserved bit
pub zero_entry_facts : (l w : ℕ) → w % 32 ≡ 0 → w / 128 ≡ 0 → (says l w ≡ Nothing) × MustBeZero l w
zero_entry_facts l w low high = (says_absent l w (omega arith), record { at_root = λ o z. seven; padding = λ o z y. absurd (false≢true (sym seven ∙ y)) })
  where
    seven : bit 7 w ≡ false
    seven = bit_off 7 w (omega arith)
