-- What keeps a page's entry as we write it: its own word, marks, and other rights.
use Rattle.std.proofs.Common.{◌≡◌, ℕ, zero, suc, ◌+◌, ◌*◌, ◌/◌, ◌%◌, ◌^◌, ◌<◌, sym, refl, ap, ◌∙◌, subst, arith}
use Rattle.entry.specs.Entry.{size_of, frame_of, says}
use Rattle.entry.specs.Clean.{Clean}
use Rattle.entry.specs.Kept.{regranted}
use Rattle.entry.specs.Marks.{Marked}
use Rattle.entry.specs.Words.{flag, large_flag, page_word, with_rights}
use Rattle.entry.specs.declared.Rights.{Rights}
use Rattle.entry.specs.declared.Entry.{Entry}
use Rattle.entry.specs.declared.Entry.TheVariants.{Nothing, Page, Table}
use Rattle.entry.proofs.Fields.{says_absent}
use Rattle.entry.proofs.Marks.{marks_say_nothing}
use Rattle.entry.proofs.OtherRights.{with_rights_says}
use Rattle.entry.proofs.Written.{FrameFits, flag_lt, page_word_says}
use Rattle.entry.proofs.Parts.{page_parts}

pub marked_self : (w : ℕ) → Marked w w
marked_self w = record { low = refl; high = refl }

-- what says no page is clean
pub nothing_clean : (n w : ℕ) → says n w ≡ Nothing → Clean n w
nothing_clean n w e f g k = let z : ◌≡◌ {A = ℕ} 0 1 = cc in absurd (omega arith)

pub zero_clean : (n : ℕ) → Clean n 0
zero_clean n = nothing_clean n 0 (says_absent n 0 (omega arith))

pub table_clean : (n w t : ℕ) (r : Rights) → says n w ≡ Table t r → Clean n w
table_clean n w t r e f g k = let z : ◌≡◌ {A = ℕ} 0 1 = cc in absurd (omega arith)

-- the word of a page
pub page_clean : (n frame : ℕ) (r : Rights) → FrameFits n frame → Clean n (page_word n frame r)
page_clean n frame r f x g e =
    let same : Page frame r ≡ Page x g = sym (page_word_says n frame r f) ∙ e in
    let a : frame ≡ x = cc in
    let b : r ≡ g = cc in
    subst (λ y. Marked (page_word n frame r) (page_word n y g)) a (subst (λ y. Marked (page_word n frame r) (page_word n frame y)) b (marked_self _))

-- the machine's marks
pub marked_clean : (n v w : ℕ) → Marked v w → Clean n w → Clean n v
marked_clean n v w k c f g e =
    let o = c f g (sym (marks_say_nothing n v w k) ∙ e) in
    record { low = k.low ∙ o.low; high = k.high ∙ o.high }

-- Other rights, over numbers: a, b and x are bits 1, 2 and 63, and k is all between bits 7 and 62 ---------------------------------------

low_bits : (a b x k : ℕ) → a < 2 → b < 2 → (1 + 2 * a + 4 * b + 128 * k + 2 ^ 63 * x) % 32 ≡ 1 + 2 * a + 4 * b
low_bits a b x k u v = omega arith

high_bits : (a b x k : ℕ) → a < 2 → b < 2 → (1 + 2 * a + 4 * b + 128 * k + 2 ^ 63 * x) / 128 ≡ k + 2 ^ 56 * x
high_bits a b x k u v = omega arith

-- the bits from 3 to 62 of a word, by its bits from 7 up and those between
middle_bits : (w k x : ℕ) → k < 2 ^ 45 → w / 128 ≡ k + 2 ^ 56 * x → w / 8 % 2 ^ 60 ≡ 16 * k + w % 128 / 8
middle_bits w k x u e =
    let parts : w / 8 ≡ 16 * (w / 128) + w % 128 / 8 = omega arith in
    ap (λ y. y % 2 ^ 60) (parts ∙ ap (λ y. 16 * y + w % 128 / 8) e) ∙ drop (w % 128 / 8) (omega arith)
  where
    drop : (t : ℕ) → t < 16 → (16 * (k + 2 ^ 56 * x) + t) % 2 ^ 60 ≡ 16 * k + t
    drop t v = omega arith

-- bits 3 and 4 are 0
three_four : (w c : ℕ) → c < 8 → w % 32 ≡ c → w % 128 / 8 % 4 ≡ 0
three_four w c u e = omega arith

again_low : (w a b x k t : ℕ) → a < 2 → b < 2 → t % 4 ≡ 0 → w % 2 ≡ 1 → (w % 2 + 2 * a + 4 * b + 8 * (16 * k + t) + 2 ^ 63 * x) % 32 ≡ 1 + 2 * a + 4 * b
again_low w a b x k t u v e f = omega arith

again_high : (w a b x k t : ℕ) → a < 2 → b < 2 → t < 16 → w % 2 ≡ 1 → (w % 2 + 2 * a + 4 * b + 8 * (16 * k + t) + 2 ^ 63 * x) / 128 ≡ k + 2 ^ 56 * x
again_high w a b x k t u v e f = omega arith

numbers : (w a b x a' b' x' k : ℕ) → a < 2 → b < 2 → a' < 2 → b' < 2 → k < 2 ^ 45 → Marked w (1 + 2 * a + 4 * b + 128 * k + 2 ^ 63 * x)
    → Marked (w % 2 + 2 * a' + 4 * b' + 8 * (w / 8 % 2 ^ 60) + 2 ^ 63 * x') (1 + 2 * a' + 4 * b' + 128 * k + 2 ^ 63 * x')
numbers w a b x a' b' x' k ua ub ua' ub' uk o =
    let low : w % 32 ≡ 1 + 2 * a + 4 * b = o.low ∙ low_bits a b x k ua ub in
    let middle : w / 8 % 2 ^ 60 ≡ 16 * k + w % 128 / 8 = middle_bits w k x uk (o.high ∙ high_bits a b x k ua ub) in
    let odd : w % 2 ≡ 1 = omega arith in
    record {
      low = ap (λ y. (w % 2 + 2 * a' + 4 * b' + 8 * y + 2 ^ 63 * x') % 32) middle
          ∙ again_low w a' b' x' k (w % 128 / 8) ua' ub' (three_four w (1 + 2 * a + 4 * b) (omega arith) low) odd ∙ sym (low_bits a' b' x' k ua' ub');
      high = ap (λ y. (w % 2 + 2 * a' + 4 * b' + 8 * y + 2 ^ 63 * x') / 128) middle
          ∙ again_high w a' b' x' k (w % 128 / 8) ua' ub' (omega arith) odd ∙ sym (high_bits a' b' x' k ua' ub');
    }

-- a frame and the flag of a large page begin at bit 7
frame_bits : (n w : ℕ) → n < 4 → (k : ℕ) × (k < 2 ^ 45) × (large_flag n + frame_of n w ≡ 128 * k)
unfolding large_flag frame_of size_of
frame_bits zero w u = (w / 4096 % 2 ^ 40 * 32, omega arith, omega arith)
frame_bits (suc zero) w u = (1 + w / 2097152 % 2 ^ 31 * 16384, omega arith, omega arith)
frame_bits (suc (suc zero)) w u = (1 + w / 1073741824 % 2 ^ 22 * 8388608, omega arith, omega arith)
frame_bits (suc (suc (suc zero))) w u = (1 + w / 549755813888 % 2 ^ 13 * 4294967296, omega arith, omega arith)
frame_bits (suc (suc (suc (suc n)))) w u = absurd (omega arith)

with_marked : (w a b x k : ℕ) (r : Rights) → a < 2 → b < 2 → k < 2 ^ 45 → Marked w (1 + 2 * a + 4 * b + 128 * k + 2 ^ 63 * x)
    → Marked (with_rights w r) (1 + 2 * flag r.writable + 4 * flag r.user + 128 * k + 2 ^ 63 * flag r.noexec)
unfolding with_rights
with_marked w a b x k r ua ub uk o = numbers w a b x _ _ _ k ua ub (flag_lt r.writable) (flag_lt r.user) uk o

-- OTHER RIGHTS keep a page's entry as we write it
pub rights_clean : (n w : ℕ) (r : Rights) → n < 4 → Clean n w → Clean n (with_rights w r)
unfolding regranted
rights_clean n w r u c f g e = go (says n w) refl (sym (with_rights_says n w r) ∙ e)
  where
    -- a page's word in numbers
    in_numbers : (k x : ℕ) (y : Rights) → large_flag n + x ≡ 128 * k → page_word n x y ≡ 1 + 2 * flag y.writable + 4 * flag y.user + 128 * k + 2 ^ 63 * flag y.noexec
    in_numbers k x y z = unfold page_word in omega (arith, z)

    page : (x : ℕ) (y : Rights) → says n w ≡ Page x y → Marked (with_rights w r) (page_word n x r)
    page x y k =
        let b = frame_bits n w u in
        let z : large_flag n + x ≡ 128 * b.0 = ap (λ t. large_flag n + t) (page_parts n w x y k).0 ∙ b.2 in
        let o = subst (Marked w) (in_numbers b.0 x y z) (c x y k) in
        subst (Marked (with_rights w r)) (sym (in_numbers b.0 x r z))
        (with_marked w (flag y.writable) (flag y.user) (flag y.noexec) b.0 r (flag_lt y.writable) (flag_lt y.user) b.1 o)

    go : (x : Entry) → says n w ≡ x → regranted r x ≡ Page f g → Marked (with_rights w r) (page_word n f g)
    go Nothing k h = let z : ◌≡◌ {A = ℕ} 0 1 = cc in absurd (omega arith)
    go (Table t y) k h = let z : ◌≡◌ {A = ℕ} 0 1 = cc in absurd (omega arith)
    go (Page x y) k h =
        let a : x ≡ f = cc in
        let b : r ≡ g = cc in
        subst (λ t. Marked (with_rights w r) (page_word n t g)) a (subst (λ t. Marked (with_rights w r) (page_word n x t)) b (page x y k))
