-- THE ENTRIES' FUNCTIONS: each clause that the source promises of them, of the words that we write and read.
use Prim.Native.Nat.{ℕ, zero, suc, ◌+◌, ◌*◌, ◌/◌, ◌%◌, ◌^◌, ◌<◌, ◌≤◌}
use mathlib.Core.Bool.{Bool, true, false}
use mathlib.Core.Logic.{◌↔◌, ◌≢◌}
use mathlib.Core.Path.{◌≡◌, refl, sym, ap, ◌∙◌, subst}
use native.Mathlib.Omega.{arith}
use Rattle.entry.specs.Entry.{size_of, bit, rights_of, frame_of, table_of, says}
use Rattle.entry.specs.Kept.{regranted}
use Rattle.entry.specs.Words.{flag, large_flag, page_word, table_word, with_rights}
use Rattle.entry.specs.declared.Rights.{Rights}
use Rattle.entry.specs.declared.Entry.{Entry}
use Rattle.entry.specs.declared.Entry.TheVariants.{Nothing, Page, Table}
use Rattle.entry.proofs.Fields.{says_last, says_table, says_large, last_no_table}
use Rattle.entry.proofs.Levels.{bit_on, bit_off}
use Rattle.entry.proofs.OtherRights.{with_rights_says, with_rights_kept}
use Rattle.entry.proofs.Written.{FrameFits, flag_lt, bit_flag, page_word_says, table_word_says}
use Rattle.verus.specs.Entries.{masked_address, MustBeZero, NewPageEntry, NewDirEntry, Permitted}
use Rattle.entry.proofs.Parts.{bit_one, bit_zero, page_large, table_seven, page_parts, table_parts}

-- New entries --------------------------------------------------------------------------------------------------------------------------

-- the fields of a page's word: rights a, b, x and frame's number q
record WordFields (l q a b x w : ℕ) : Type 0 where
  address : w / 4096 % 2 ^ 40 * 4096 ≡ size_of l * q
  present : w / 1 % 2 ≡ 1
  writable : w / 2 % 2 ≡ a
  user : w / 4 % 2 ≡ b
  three : w / 8 % 2 ≡ 0
  four : w / 16 % 2 ≡ 0
  five : w / 32 % 2 ≡ 0
  six : w / 64 % 2 ≡ 0
  large : l ≢ 0 → w / 128 % 2 ≡ 1
  small : l ≡ 0 → w / 128 % 2 ≡ 0
  pat : l ≢ 0 → w / 4096 % 2 ≡ 0
  noexec : w / 2 ^ 63 % 2 ≡ x
  padding : l ≢ 0 → w / 8192 % (size_of l / 8192) ≡ 0

fields : (l q a b x : ℕ) → l ≤ 2 → q < 2 ^ 52 / size_of l → a < 2 → b < 2 → x < 2 → WordFields l q a b x (1 + 2 * a + 4 * b + large_flag l + size_of l * q + 2 ^ 63 * x)
unfolding size_of large_flag
fields zero q a b x u k ua ub ux = record {
  address = omega arith;
  present = omega arith;
  writable = omega arith;
  user = omega arith;
  three = omega arith;
  four = omega arith;
  five = omega arith;
  six = omega arith;
  large = λ z. absurd (z refl);
  small = λ z. omega arith;
  pat = λ z. absurd (z refl);
  noexec = omega arith;
  padding = λ z. absurd (z refl);
}
fields (suc zero) q a b x u k ua ub ux = record {
  address = omega arith;
  present = omega arith;
  writable = omega arith;
  user = omega arith;
  three = omega arith;
  four = omega arith;
  five = omega arith;
  six = omega arith;
  large = λ z. omega arith;
  small = λ z. absurd (omega arith);
  pat = λ z. omega arith;
  noexec = omega arith;
  padding = λ z. omega arith;
}
fields (suc (suc zero)) q a b x u k ua ub ux = record {
  address = omega arith;
  present = omega arith;
  writable = omega arith;
  user = omega arith;
  three = omega arith;
  four = omega arith;
  five = omega arith;
  six = omega arith;
  large = λ z. omega arith;
  small = λ z. absurd (omega arith);
  pat = λ z. omega arith;
  noexec = omega arith;
  padding = λ z. omega arith;
}
fields (suc (suc (suc l))) q a b x u k ua ub ux = absurd (omega arith)

-- a frame by its number
number : (l frame : ℕ) → FrameFits l frame → (frame / size_of l < 2 ^ 52 / size_of l) × (frame ≡ size_of l * (frame / size_of l))
unfolding size_of
number zero frame f = (omega (arith, f.below), omega (arith, f.aligned))
number (suc zero) frame f = (omega (arith, f.below), omega (arith, f.aligned))
number (suc (suc zero)) frame f = (omega (arith, f.below), omega (arith, f.aligned))
number (suc (suc (suc l))) frame f = absurd (omega (arith, f.level))

page_fields : (l frame : ℕ) (r : Rights) → FrameFits l frame → WordFields l (frame / size_of l) (flag r.writable) (flag r.user) (flag r.noexec) (page_word l frame r)
unfolding page_word
page_fields l frame r f =
    let k = number l frame f in
    subst (λ y. WordFields l (frame / size_of l) (flag r.writable) (flag r.user) (flag r.noexec) (1 + 2 * flag r.writable + 4 * flag r.user + large_flag l + y + 2 ^ 63 * flag r.noexec))
    (sym k.1) (fields l (frame / size_of l) _ _ _ f.level k.0 (flag_lt r.writable) (flag_lt r.user) (flag_lt r.noexec))

-- NEW_PAGE_ENTRY
pub new_page_entry : (l frame : ℕ) (r : Rights) → FrameFits l frame → NewPageEntry l frame r (page_word l frame r)
new_page_entry l frame r f = record {
  page = page_word_says l frame r f;
  address = k.address ∙ sym (number l frame f).1;
  present = bit_on 0 w (omega (arith, k.present));
  writable = bit_flag 1 w r.writable k.writable;
  user = bit_flag 2 w r.user k.user;
  write_through = bit_off 3 w k.three;
  cache_disabled = bit_off 4 w k.four;
  accessed = bit_off 5 w k.five;
  dirty = bit_off 6 w k.six;
  large = λ z. bit_on 7 w (omega (arith, k.large z));
  small = λ z. bit_off 7 w (k.small z);
  hp_pat = λ z. bit_off 12 w (k.pat z);
  no_execute = bit_flag 63 w r.noexec k.noexec;
  mb0 = record { at_root = λ o z. absurd (omega (arith, f.level)); padding = λ o z e. k.padding z };
}
  where
    w : ℕ
    w = page_word l frame r

    k : WordFields l (frame / size_of l) (flag r.writable) (flag r.user) (flag r.noexec) w
    k = page_fields l frame r f

-- NEW_DIR_ENTRY
pub new_dir_entry : (l p : ℕ) → l ≢ 0 → p < 2 ^ 40 → NewDirEntry l p (table_word p)
unfolding table_word
new_dir_entry l p n u = record {
  directory = table_word_says l p n u;
  accessed = bit_off 5 (4096 * p + 7) (omega arith);
  dirty = bit_off 6 (4096 * p + 7) (omega arith);
  mb0 = record { at_root = λ o z. seven; padding = λ o z e. let x : ◌≡◌ {A = Bool} true false = sym e ∙ seven in let y : ◌≡◌ {A = ℕ} 0 1 = cc in absurd (omega arith) };
}
  where
    seven : bit 7 (4096 * p + 7) ≡ false
    seven = bit_off 7 (4096 * p + 7) (omega arith)

-- CHANGE_PAGE_PERMISSIONS; of any word of a page, whatever its bits 7 and 12 are
pub change_page_permissions : (l w frame : ℕ) (g r : Rights) → says l w ≡ Page frame g → Permitted l frame r w (with_rights w r)
change_page_permissions l w frame g r e = record {
  page = with_rights_says l w r ∙ ap (regranted r) e ∙ (unfold regranted in refl);
  kept = with_rights_kept w r;
}

-- Reading ------------------------------------------------------------------------------------------------------------------------------

pub present_bit : (l w : ℕ) → says l w ≢ Nothing → bit 0 w ≡ true
unfolding says
present_bit l w n = go (bit 0 w) refl
  where
    go : (b : Bool) → bit 0 w ≡ b → b ≡ true
    go true e = refl
    go false e = absurd (n (rw e))

-- IS_PRESENT: where the reserved bits are 0, what says something is what has bit 0
pub is_present : (l w : ℕ) → l < 4 → MustBeZero l w → (says l w ≢ Nothing) ↔ (bit 0 w ≡ true)
is_present l w u z = (λ n. present_bit l w n ∙ refl, λ e. go l u z e (bit_one 0 w e) (bit 7 w) refl)
  where
    two : (e : Entry) (f : ℕ) (g : Rights) → e ≡ Page f g → e ≢ Nothing
    two e f g k n = let x : ◌≡◌ {A = ℕ} 0 1 = cc in omega arith

    three : (e : Entry) (f : ℕ) (g : Rights) → e ≡ Table f g → e ≢ Nothing
    three e f g k n = let x : ◌≡◌ {A = ℕ} 0 1 = cc in omega arith

    go : (l : ℕ) → l < 4 → MustBeZero l w → bit 0 w ≡ true → w / 2 ^ 0 % 2 ≡ 1 → (b : Bool) → bit 7 w ≡ b → says l w ≢ Nothing
    go zero u z o e b k = two _ _ _ (says_last w (omega (arith, e)))
    go (suc l) u z o e false k = three _ _ _ (says_table (suc l) w (λ y. omega arith) (omega (arith, e)) (bit_zero 7 w k))
    go (suc l) u z o e true k =
        let low : suc l ≤ 2 = high l u z k in
        two _ _ _ (says_large (suc l) w (λ y. omega arith) low (omega (arith, e)) (bit_one 7 w k) (z.padding o (λ y. omega arith) k))
      where
        high : (l : ℕ) → suc l < 4 → MustBeZero (suc l) w → bit 7 w ≡ true → suc l ≤ 2
        high zero u z k = omega arith
        high (suc zero) u z k = omega arith
        high (suc (suc zero)) u z k = let x : ◌≡◌ {A = Bool} true false = sym k ∙ z.at_root o refl in let y : ◌≡◌ {A = ℕ} 0 1 = cc in absurd (omega arith)
        high (suc (suc (suc l))) u z k = absurd (omega arith)

-- IS_PAGE, IS_DIR: a page above the last level has bit 7, a directory has not, and at the last level there are pages only
pub is_page : (l w f : ℕ) (g : Rights) → says l w ≡ Page f g → l ≢ 0 → bit 7 w ≡ true
is_page l w f g e n = bit_on 7 w (let k = page_large l w f g n e in omega (arith, k.seven))

pub is_dir : (l w t : ℕ) (g : Rights) → says l w ≡ Table t g → (bit 7 w ≡ false) × (l ≢ 0)
is_dir l w t g e = (bit_off 7 w (table_seven l w t g e), λ z. last_no_table w t g (subst (λ x. says x w ≡ Table t g) z e))

two_mib : (w : ℕ) → w / 8192 % 256 ≡ 0 → w / 4096 % 2 ≡ 0 → w / 4096 % 2 ^ 40 * 4096 ≡ w / 2097152 % 2 ^ 31 * 2097152
two_mib w p b =
    let number : w / 2097152 ≡ w / 4096 / 512 = omega arith in
    let half : w / 8192 ≡ w / 4096 / 2 = omega arith in
    halves (w / 4096) (low (w / 4096) (ap (λ x. x % 256) (sym half) ∙ p) b) ∙ ap (λ x. x % 2 ^ 31 * 2097152) (sym number)
  where
    low : (q : ℕ) → q / 2 % 256 ≡ 0 → q % 2 ≡ 0 → q % 512 ≡ 0
    low q e f = omega arith

    halves : (q : ℕ) → q % 512 ≡ 0 → q % 2 ^ 40 * 4096 ≡ q / 512 % 2 ^ 31 * 2097152
    halves q e = omega arith

one_gib : (w : ℕ) → w / 8192 % 131072 ≡ 0 → w / 4096 % 2 ≡ 0 → w / 4096 % 2 ^ 40 * 4096 ≡ w / 1073741824 % 2 ^ 22 * 1073741824
one_gib w p b =
    let number : w / 1073741824 ≡ w / 4096 / 262144 = omega arith in
    let half : w / 8192 ≡ w / 4096 / 2 = omega arith in
    halves (w / 4096) (low (w / 4096) (ap (λ x. x % 131072) (sym half) ∙ p) b) ∙ ap (λ x. x % 2 ^ 22 * 1073741824) (sym number)
  where
    low : (q : ℕ) → q / 2 % 131072 ≡ 0 → q % 2 ≡ 0 → q % 262144 ≡ 0
    low q e f = omega arith

    halves : (q : ℕ) → q % 262144 ≡ 0 → q % 2 ^ 40 * 4096 ≡ q / 262144 % 2 ^ 22 * 1073741824
    halves q e = omega arith

-- ADDRESS: one mask gives the address of a directory, and of a page too, where bit 12 of a large page is 0 (hp_pat_is_zero)
pub address : (l w f : ℕ) (g : Rights) → says l w ≡ Page f g → (l ≢ 0 → bit 12 w ≡ false) → masked_address w ≡ f
address l w f g e pat = go l w e pat ∙ sym (page_parts l w f g e).0
  where
    go : (l w : ℕ) → says l w ≡ Page f g → (l ≢ 0 → bit 12 w ≡ false) → masked_address w ≡ frame_of l w
    go zero w e pat = unfold frame_of size_of in refl
    go (suc l) w e pat =
        let k = page_large (suc l) w f g (λ z. omega arith) e in
        large l w k.level k.padding (bit_zero 12 w (pat (λ z. omega arith)))
      where
        large : (l w : ℕ) → suc l ≤ 2 → w / 8192 % (size_of (suc l) / 8192) ≡ 0 → w / 2 ^ 12 % 2 ≡ 0 → masked_address w ≡ frame_of (suc l) w
        large zero w u p b = two_mib w (unfold size_of in p) b ∙ (unfold frame_of size_of in refl)
        large (suc zero) w u p b = one_gib w (unfold size_of in p) b ∙ (unfold frame_of size_of in refl)
        large (suc (suc l)) w u p b = absurd (omega arith)

pub directory_address : (l w t : ℕ) (g : Rights) → says l w ≡ Table t g → masked_address w ≡ t * 4096
directory_address l w t g e = unfold table_of in ap (λ x. x * 4096) (sym (table_parts l w t g e).0)

-- FLAGS: the rights that an entry says are its bits 1, 2 and 63
pub flags : (l w f : ℕ) (g : Rights) → says l w ≡ Page f g → g ≡ rights_of w
flags l w f g e = (page_parts l w f g e).1
