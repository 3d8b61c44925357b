-- A 4 KIB PAGE'S ENTRY AS THE SOURCE WRITES IT, with bit 7, keeps our invariant: bit 7 is no hindrance to what the operations ask for.
use Prim.Native.Nat.{ℕ, ◌+◌, ◌*◌, ◌/◌, ◌%◌, ◌^◌, ◌<◌}
use mathlib.Core.Path.{◌≡◌, refl, sym, ap, ◌∙◌, subst}
use native.Mathlib.Omega.{arith}
use Rattle.word.specs.Memory.{at, set}
use Rattle.entry.specs.Entry.{size_of, bit, rights_of, frame_of, says}
use Rattle.entry.specs.Words.{flag, large_flag, page_word}
use Rattle.entry.specs.declared.Rights.{Rights}
use Rattle.entry.specs.declared.Entry.TheVariants.{Nothing, Page}
use Rattle.entry.proofs.Fields.{says_last}
use Rattle.entry.proofs.Parts.{page_parts}
use Rattle.entry.proofs.Written.{FrameFits, flag_lt, page_word_says}
use Rattle.walk.specs.Walk.{index_of}
use Rattle.tables.specs.Roles.{Setting, Role, entry_at, Apart, Sound}
use Rattle.tables.specs.Way.{Comes}
use Rattle.tables.proofs.Down.{down_start, map_done}
use Rattle.tables.proofs.Operation.{changed_sound}

-- the low bits of the word of a 4 KiB page: present, writable, user
low_bits : (f : ℕ) (g : Rights) → FrameFits 0 f → page_word 0 f g % 4096 < 8
unfolding page_word large_flag size_of
low_bits f g k =
    let number : f ≡ 4096 * (f / 4096) = omega (arith, k.aligned) in
    subst (λ y. (1 + 2 * flag g.writable + 4 * flag g.user + 0 + y + 2 ^ 63 * flag g.noexec) % 4096 < 8) (sym number)
    (numbers (flag g.writable) (flag g.user) (flag g.noexec) (f / 4096) (flag_lt g.writable) (flag_lt g.user))
  where
    small : (r k : ℕ) → r < 8 → (r + 4096 * k) % 4096 < 8
    small r k u = omega arith

    numbers : (a b x q : ℕ) → a < 2 → b < 2 → (1 + 2 * a + 4 * b + 0 + 4096 * q + 2 ^ 63 * x) % 4096 < 8
    numbers a b x q u v =
        let parts : 1 + 2 * a + 4 * b + 0 + 4096 * q + 2 ^ 63 * x ≡ 1 + 2 * a + 4 * b + 4096 * (q + 2 ^ 51 * x) = omega arith in
        subst (λ y. y % 4096 < 8) (sym parts) (small (1 + 2 * a + 4 * b) (q + 2 ^ 51 * x) (omega arith))

-- bit 7 is in no other part of it
page_number : (w : ℕ) → w % 4096 < 8 → (w + 128) / 4096 ≡ w / 4096
page_number w u = omega arith

same_frame : (w : ℕ) → w % 4096 < 8 → frame_of 0 (w + 128) ≡ frame_of 0 w
unfolding frame_of size_of
same_frame w u = ap (λ x. x % 2 ^ 40 * 4096) (page_number w u)

same_rights : (w : ℕ) → w % 4096 < 8 → rights_of (w + 128) ≡ rights_of w
unfolding rights_of bit
same_rights w u =
    let one : (w + 128) / 2 ^ 1 % 2 ≡ w / 2 ^ 1 % 2 = omega arith in
    let two : (w + 128) / 2 ^ 2 % 2 ≡ w / 2 ^ 2 % 2 = omega arith in
    let high : (w + 128) / 2 ^ 63 ≡ (w + 128) / 4096 / 2 ^ 51 = omega arith in
    let low : w / 2 ^ 63 ≡ w / 4096 / 2 ^ 51 = omega arith in
    let last : (w + 128) / 2 ^ 63 % 2 ≡ w / 2 ^ 63 % 2 = ap (λ x. x % 2) (high ∙ ap (λ x. x / 2 ^ 51) (page_number w u) ∙ sym low) in
    rw (one, two, last)

pub their_page_says : (f : ℕ) (g : Rights) → FrameFits 0 f → says 0 (page_word 0 f g + 128) ≡ Page f g
their_page_says f g k =
    let w = page_word 0 f g in
    let u = low_bits f g k in
    let parts = page_parts 0 w f g (page_word_says 0 f g k) in
    says_last (w + 128) (odd w f g k)
    ∙ ap (λ x. Page x (rights_of (w + 128))) (same_frame w u ∙ sym parts.0) ∙ ap (Page f) (same_rights w u ∙ sym parts.1)
  where
    odd : (w f : ℕ) (g : Rights) → FrameFits 0 f → (page_word 0 f g + 128) % 2 ≡ 1
    odd w f g k = unfold page_word large_flag size_of in omega (arith, k.aligned)

-- WRITTEN where nothing is, by a frame apart from the pool
pub their_page_kept : {σ : Setting} {m : ℕ → ℕ} {role : ℕ → Role} {va q : ℕ} (f : ℕ) (g : Rights) → Sound σ m role → Comes σ m va 1 q
    → entry_at m 0 q (index_of 0 va) ≡ Nothing → FrameFits 0 f → Apart σ f 4096 → Sound σ (set m (at q (index_of 0 va)) (page_word 0 f g + 128)) role
their_page_kept f g s c was k a =
    changed_sound (map_done (page_word 0 f g + 128) f g (down_start s c) was (their_page_says f g k) (unfold size_of in a) (λ x y e z. absurd (z refl)))
