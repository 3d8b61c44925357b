-- What keeps bit 12 of a large page 0: its own word, marks, and other rights.
use Rattle.std.proofs.Common.{◌≡◌, ℕ, zero, suc, ◌+◌, ◌*◌, ◌/◌, ◌%◌, ◌^◌, ◌<◌, false, sym, refl, ap, ◌∙◌, subst, arith}
use Rattle.entry.specs.Entry.{size_of, bit, says}
use Rattle.entry.specs.Pat.{PatClear}
use Rattle.entry.specs.Kept.{regranted}
use Rattle.entry.specs.Marks.{Marked}
use Rattle.entry.specs.Words.{flag, large_flag, page_word, with_rights}
use Rattle.entry.specs.declared.Rights.{Rights}
use Rattle.entry.specs.declared.Entry.{Entry}
use Rattle.entry.specs.declared.Entry.TheVariants.{Nothing, Page, Table}
use Rattle.entry.proofs.Fields.{says_absent}
use Rattle.entry.proofs.Levels.{bit_off}
use Rattle.entry.proofs.Marks.{marks_say_nothing}
use Rattle.entry.proofs.OtherRights.{with_rights_says, with_rights_kept}
use Rattle.entry.proofs.Parts.{bit_zero}
use Rattle.entry.proofs.Written.{FrameFits, flag_lt}

-- what says no page
pub nothing_pat : (n w : ℕ) → says n w ≡ Nothing → PatClear n w
nothing_pat n w e f g k z = let x : ◌≡◌ {A = ℕ} 0 1 = cc in absurd (omega arith)

pub zero_pat : (n : ℕ) → PatClear n 0
zero_pat n = nothing_pat n 0 (says_absent n 0 (omega arith))

pub table_pat : (n w t : ℕ) (r : Rights) → says n w ≡ Table t r → PatClear n w
table_pat n w t r e f g k z = let x : ◌≡◌ {A = ℕ} 0 1 = cc in absurd (omega arith)

-- the word of a page: rights a, b, x, and the frame's number q
two_mib : (a b x q : ℕ) → a < 2 → b < 2 → (1 + 2 * a + 4 * b + 128 + 2097152 * q + 2 ^ 63 * x) / 2 ^ 12 % 2 ≡ 0
two_mib a b x q u v = omega arith

one_gib : (a b x q : ℕ) → a < 2 → b < 2 → (1 + 2 * a + 4 * b + 128 + 1073741824 * q + 2 ^ 63 * x) / 2 ^ 12 % 2 ≡ 0
one_gib a b x q u v = omega arith

pub page_pat : (n frame : ℕ) (r : Rights) → FrameFits n frame → PatClear n (page_word n frame r)
unfolding page_word large_flag size_of
page_pat zero frame r f x g e z = absurd (z refl)
page_pat (suc zero) frame r f x g e z =
    let number : frame ≡ 2097152 * (frame / 2097152) = omega (arith, f.aligned) in
    bit_off 12 _ (subst (λ y. (1 + 2 * flag r.writable + 4 * flag r.user + 128 + y + 2 ^ 63 * flag r.noexec) / 2 ^ 12 % 2 ≡ 0) (sym number)
    (two_mib _ _ _ (frame / 2097152) (flag_lt r.writable) (flag_lt r.user)))
page_pat (suc (suc zero)) frame r f x g e z =
    let number : frame ≡ 1073741824 * (frame / 1073741824) = omega (arith, f.aligned) in
    bit_off 12 _ (subst (λ y. (1 + 2 * flag r.writable + 4 * flag r.user + 128 + y + 2 ^ 63 * flag r.noexec) / 2 ^ 12 % 2 ≡ 0) (sym number)
    (one_gib _ _ _ (frame / 1073741824) (flag_lt r.writable) (flag_lt r.user)))
page_pat (suc (suc (suc n))) frame r f x g e z = absurd (omega (arith, f.level))

-- the machine's marks
pub marked_pat : (n v w : ℕ) → Marked v w → PatClear n w → PatClear n v
marked_pat n v w k c f g e z = bit_off 12 v (by_high v w k.high (bit_zero 12 w (c f g (sym (marks_say_nothing n v w k) ∙ e) z)))
  where
    by_high : (v x : ℕ) → v / 128 ≡ x / 128 → x / 2 ^ 12 % 2 ≡ 0 → v / 2 ^ 12 % 2 ≡ 0
    by_high v x h o =
        let a : v / 4096 ≡ v / 128 / 32 = omega arith in
        let c : x / 4096 ≡ x / 128 / 32 = omega arith in
        ap (λ y. y % 2) (a ∙ ap (λ y. y / 32) h ∙ sym c) ∙ o

-- other rights
pub rights_pat : (n w : ℕ) (r : Rights) → PatClear n w → PatClear n (with_rights w r)
unfolding regranted
rights_pat n w r c f g e z = go (says n w) refl (sym (with_rights_says n w r) ∙ e)
  where
    middle : (v x : ℕ) → v / 8 % 2 ^ 60 ≡ x / 8 % 2 ^ 60 → x / 2 ^ 12 % 2 ≡ 0 → v / 2 ^ 12 % 2 ≡ 0
    middle v x h o =
        let a : v / 4096 % 2 ≡ v / 8 % 2 ^ 60 / 512 % 2 = omega arith in
        let c : x / 4096 % 2 ≡ x / 8 % 2 ^ 60 / 512 % 2 = omega arith in
        a ∙ ap (λ y. y / 512 % 2) h ∙ sym c ∙ o

    go : (x : Entry) → says n w ≡ x → regranted r x ≡ Page f g → bit 12 (with_rights w r) ≡ false
    go Nothing k h = let y : ◌≡◌ {A = ℕ} 0 1 = cc in absurd (omega arith)
    go (Table t y) k h = let x : ◌≡◌ {A = ℕ} 0 1 = cc in absurd (omega arith)
    go (Page x y) k h = bit_off 12 (with_rights w r) (middle (with_rights w r) w (with_rights_kept w r).middle (bit_zero 12 w (c x y k z)))
