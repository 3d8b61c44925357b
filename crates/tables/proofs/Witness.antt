-- A WITNESS: a memory and roles that meet the invariant, with a book, a root, tables at every level, pages of the three sizes, a page set
-- aside and free pages, all at once. It is come to from an empty root by the steps of map and unmap, and what it means is computed.
use Prim.Native.Nat.{ℕ, ◌-◌, ◌+◌, ◌*◌, ◌^◌, ◌≤◌, ◌<◌}
use mathlib.Core.Bool.{Bool, true, false, cond, ◌&&◌}
use mathlib.Core.Logic.{inl, inr, ◌≢◌}
use mathlib.Core.Path.{◌≡◌, refl, sym, ap, ◌∙◌}
use native.Mathlib.Decide.{ℕ_discrete}
use native.Mathlib.Omega.{arith}
use borrow.Author.Tests.{ltb-true, ltb-false, lt-ltb, le-leb}
use lib.Dec.{leb, ltb}
use Rattle.word.specs.Memory.{set, at}
use Rattle.word.proofs.Set.{set_at, set_other}
use Rattle.entry.specs.Entry.{size_of, bit, rights_of, frame_of, table_of, padded, large_of, present_of, says, both, everything}
use Rattle.entry.specs.Words.{flag, large_flag, page_word, table_word}
use Rattle.entry.specs.declared.Rights.{Rights}
use Rattle.entry.specs.declared.Entry.TheVariants.{Nothing, Page, Table}
use Rattle.entry.proofs.Fields.{says_absent}
use Rattle.entry.proofs.Pat.{page_pat}
use Rattle.entry.proofs.Written.{FrameFits, table_word_says, page_word_says}
use Rattle.walk.specs.Walk.{canonical, index_of, base_of, entered, step_of, run, start, found_of, walk}
use Rattle.walk.proofs.Addresses.{in_upper}
use Rattle.walk.specs.declared.Found.TheVariants as found
use Rattle.tables.specs.Roles.{Setting, Role, foreign, free, aside, book, root, table, Home, Sound, Zero}
use Rattle.tables.specs.Way.{onto}
use Rattle.tables.specs.Meaning.{meaning}
use Rattle.tables.proofs.Meaning.{comes_root}
use Rattle.tables.proofs.OneWrite.{at_page, table_something}
use Rattle.tables.proofs.Kept.{zero_bare}
use Rattle.tables.proofs.Start.{fresh_sound}
use Rattle.tables.proofs.Operation.{changed_sound}
use Rattle.tables.proofs.Down.{down_start, down_step, down_link, map_done}
use Rattle.tables.proofs.Up.{up_start, up_step, unmap_done}

-- pages 16 to 23 are lent, and are the pool; the root is in page 17
abbrev pub setting : Setting
setting = record { window = λ p. leb 16 p && ltb p 24; lo = 16; hi = 24; cr3 = 4096 * 17 }

-- the frames of the four pages that are mapped fit
small_fits : FrameFits 0 409600
small_fits = record { level = omega arith; aligned = unfold size_of in refl; below = omega arith }

gone_fits : FrameFits 0 413696
gone_fits = record { level = omega arith; aligned = unfold size_of in refl; below = omega arith }

middle_fits : FrameFits 1 2097152
middle_fits = record { level = omega arith; aligned = unfold size_of in refl; below = omega arith }

large_fits : FrameFits 2 1073741824
large_fits = record { level = omega arith; aligned = unfold size_of in refl; below = omega arith }

-- At first --------------------------------------------------------------------------------------------------------------------

unfoldable pub roles₀ : ℕ → Role
roles₀ x = cond (ltb x 16) foreign (cond (ltb x 17) book (cond (ltb x 18) root (cond (ltb x 24) free foreign)))

abbrev memory₀ : ℕ → ℕ
memory₀ x = 0

role_cases : (x : ℕ) (P : Role → Type 0) → ((16 ≤ x → x < 24 → ⊥) → P foreign) → (x ≡ 16 → P book) → (x ≡ 17 → P root) → (18 ≤ x → x < 24 → P free) → P (roles₀ x)
unfolding roles₀
role_cases x P a b c d = one (ltb x 16) refl
  where
    four : (t : Bool) → ltb x 18 ≡ false → ltb x 24 ≡ t → P (cond t free foreign)
    four true h k = d (ltb-false x 18 h) (ltb-true x 24 k)
    four false h k = a (λ u v. omega (arith, ltb-false x 24 k))

    three : (t : Bool) → ltb x 17 ≡ false → ltb x 18 ≡ t → P (cond t root (cond (ltb x 24) free foreign))
    three true h k = c (omega (arith, ltb-false x 17 h, ltb-true x 18 k))
    three false h k = four (ltb x 24) k refl

    two : (t : Bool) → ltb x 16 ≡ false → ltb x 17 ≡ t → P (cond t book (cond (ltb x 18) root (cond (ltb x 24) free foreign)))
    two true h k = b (omega (arith, ltb-false x 16 h, ltb-true x 17 k))
    two false h k = three (ltb x 18) k refl

    one : (t : Bool) → ltb x 16 ≡ t → P (cond t foreign (cond (ltb x 17) book (cond (ltb x 18) root (cond (ltb x 24) free foreign))))
    one true h = a (λ u v. omega (arith, ltb-true x 16 h))
    one false h = two (ltb x 17) h refl

at_home : (p : ℕ) → 16 ≤ p → p < 24 → Home setting p
at_home p u v = record { from = u; upto = v; held = rw (le-leb 16 p u, lt-ltb p 24 v) }

at_first : Sound setting memory₀ roles₀
at_first = fresh_sound memory₀ (record {
  home = λ p. role_cases p (λ r. r ≢ foreign → Home setting p) (λ o n. absurd (n refl)) (λ h n. at_home p (omega arith) (omega arith))
      (λ h n. at_home p (omega arith) (omega arith)) (λ u v n. at_home p (omega arith) v);
  whole = λ p u v. role_cases p (λ r. r ≢ foreign) (λ o. absurd (o u v)) (λ h e. let z : ◌≡◌ {A = ℕ} 0 1 = cc in omega arith)
      (λ h e. let z : ◌≡◌ {A = ℕ} 0 1 = cc in omega arith) (λ w x e. let z : ◌≡◌ {A = ℕ} 0 1 = cc in omega arith);
  starts = root_there;
  alone = λ p. role_cases p (λ r. r ≡ root → p ≡ table_of setting.cr3) (λ o e. let z : ◌≡◌ {A = ℕ} 0 1 = cc in absurd (omega arith))
      (λ h e. let z : ◌≡◌ {A = ℕ} 0 1 = cc in absurd (omega arith)) (λ h e. h ∙ sym root_page) (λ u v e. let z : ◌≡◌ {A = ℕ} 0 1 = cc in absurd (omega arith));
  bare = λ p l q i. role_cases p (λ r. r ≢ table l q i) (λ o e. let z : ◌≡◌ {A = ℕ} 0 1 = cc in omega arith)
      (λ h e. let z : ◌≡◌ {A = ℕ} 0 1 = cc in omega arith) (λ h e. let z : ◌≡◌ {A = ℕ} 0 1 = cc in omega arith)
      (λ u v e. let z : ◌≡◌ {A = ℕ} 0 1 = cc in omega arith);
}) (λ j u. refl)
  where
    root_page : table_of setting.cr3 ≡ 17
    root_page = unfold table_of in refl

    root_there : roles₀ (table_of setting.cr3) ≡ root
    root_there = unfold table_of roles₀ in refl

-- a page whose words are 0, after a write into another
zero_still : (m : ℕ → ℕ) (q i v p : ℕ) → i < 512 → q ≢ p → Zero m p → Zero (set m (at q i) v) p
zero_still m q i v p u d z j w = set_other m (at q i) v (at p j) (λ e. d (at_page q i p j u w e)) ∙ z j w

-- and after two writes of one word, the second 0
zero_again : (m : ℕ → ℕ) (p i v : ℕ) → Zero m p → Zero (set (set m (at p i) v) (at p i) 0) p
zero_again m p i v z j u = go (ℕ_discrete i j)
  where
    go : Dec (i ≡ j) → set (set m (at p i) v) (at p i) 0 (at p j) ≡ 0
    go (yes e) = set_at (set m (at p i) v) (at p i) 0 (at p j) (ap (at p) e)
    go (no d) = set_other (set m (at p i) v) (at p i) 0 (at p j) (λ e. d (omega arith)) ∙ set_other m (at p i) v (at p j) (λ e. d (omega arith)) ∙ z j u

-- what the words that are written say
nothing_says : (l : ℕ) → says l 0 ≡ Nothing
nothing_says l = says_absent l 0 (omega arith)

table_says : (l p : ℕ) → 0 < l → p < 24 → says l (table_word p) ≡ Table p everything
table_says l p u v = table_word_says l p (λ e. omega arith) (omega arith)

-- Steps: a page of 4 KiB at indices 257, 2, 3, 4, with three new tables ------------------------------------------------------------

-- where the root's entry 257 begins, in the upper half
abbrev top : ℕ
top = 2 ^ 64 - 2 ^ 47 + 2 ^ 39

abbrev small : ℕ
small = top + 2 * 2 ^ 30 + 3 * 2 ^ 21 + 4 * 2 ^ 12

abbrev m₁ : ℕ → ℕ
m₁ = set memory₀ (at 17 257) (table_word 18)

abbrev m₂ : ℕ → ℕ
m₂ = set m₁ (at 18 2) (table_word 19)

abbrev m₃ : ℕ → ℕ
m₃ = set m₂ (at 19 3) (table_word 20)

abbrev m₄ : ℕ → ℕ
m₄ = set m₃ (at 20 4) (page_word 0 409600 everything)

abbrev r₁ : ℕ → Role
r₁ = set roles₀ 18 (table 3 17 257)

abbrev r₂ : ℕ → Role
r₂ = set r₁ 19 (table 2 18 2)

abbrev r₃ : ℕ → Role
r₃ = set r₂ 20 (table 1 19 3)

with_small : Sound setting m₄ r₃
unfolding set ℕ_discrete index_of size_of table_of roles₀
with_small =
    let d₀ = down_start {va = small} at_first (comes_root (in_upper small (omega arith) (omega arith))) in
    let d₁ = down_link (table_word 18) 18 d₀ (nothing_says 3) (table_says 3 18 (omega arith) (omega arith)) refl (λ j u. refl) in
    let z₁ = zero_still memory₀ 17 257 (table_word 18) 19 (omega arith) (omega arith) (λ j u. refl) in
    let d₂ = down_link (table_word 19) 19 d₁ (nothing_says 2) (table_says 2 19 (omega arith) (omega arith)) refl z₁ in
    let z₂ = zero_still m₁ 18 2 (table_word 19) 20 (omega arith) (omega arith) (zero_still memory₀ 17 257 (table_word 18) 20 (omega arith) (omega arith) (λ j u. refl)) in
    let d₃ = down_link (table_word 20) 20 d₂ (nothing_says 1) (table_says 1 20 (omega arith) (omega arith)) refl z₂ in
    changed_sound (map_done (page_word 0 409600 everything) 409600 everything d₃ (nothing_says 0)
    (page_word_says 0 409600 everything small_fits) (inr (omega arith)) (page_pat 0 409600 everything small_fits))

-- Another one at indices 1, 2, 8, 9, with one new table, which goes again ------------------------------------------------------------

abbrev gone : ℕ
gone = top + 2 * 2 ^ 30 + 8 * 2 ^ 21 + 9 * 2 ^ 12

abbrev m₅ : ℕ → ℕ
m₅ = set m₄ (at 19 8) (table_word 21)

abbrev m₆ : ℕ → ℕ
m₆ = set m₅ (at 21 9) (page_word 0 413696 everything)

abbrev m₇ : ℕ → ℕ
m₇ = set m₆ (at 21 9) 0

abbrev m₈ : ℕ → ℕ
m₈ = set m₇ (at 19 8) 0

abbrev r₄ : ℕ → Role
r₄ = set r₃ 21 (table 1 19 8)

abbrev r₅ : ℕ → Role
r₅ = set r₄ 21 aside

-- page 21 was never written before
zero_21 : Zero m₄ 21
zero_21 =
    zero_still m₃ 20 4 (page_word 0 409600 everything) 21 (omega arith) (omega arith)
    (zero_still m₂ 19 3 (table_word 20) 21 (omega arith) (omega arith) (zero_still m₁ 18 2 (table_word 19) 21 (omega arith) (omega arith)
    (zero_still memory₀ 17 257 (table_word 18) 21 (omega arith) (omega arith) (λ j u. refl))))

gone_page : says 0 (page_word 0 413696 everything) ≡ Page 413696 everything
gone_page = page_word_says 0 413696 everything gone_fits

with_gone : Sound setting m₆ r₄
unfolding set ℕ_discrete index_of size_of table_of roles₀
with_gone =
    let d₀ = down_start {va = gone} with_small (comes_root (in_upper gone (omega arith) (omega arith))) in
    let d₁ = down_step 18 everything d₀ (table_says 3 18 (omega arith) (omega arith)) in
    let d₂ = down_step 19 everything d₁ (table_says 2 19 (omega arith) (omega arith)) in
    let d₃ = down_link (table_word 21) 21 d₂ (nothing_says 1) (table_says 1 21 (omega arith) (omega arith)) refl zero_21 in
    changed_sound (map_done (page_word 0 413696 everything) 413696 everything d₃ (nothing_says 0) gone_page (inr (omega arith)) (page_pat 0 413696 everything gone_fits))

with_aside : Sound setting m₈ r₅
unfolding set ℕ_discrete index_of size_of table_of roles₀
with_aside =
    let c₃ = onto 17 everything (comes_root {σ = setting} {m = m₆} {va = gone} (in_upper gone (omega arith) (omega arith))) (table_says 3 18 (omega arith) (omega arith)) in
    let c₂ = onto 18 everything c₃ (table_says 2 19 (omega arith) (omega arith)) in
    let c₁ = onto 19 everything c₂ (table_says 1 21 (omega arith) (omega arith)) in
    let u₀ = up_start 413696 everything with_gone c₁ gone_page in
    let u₁ = up_step 19 everything u₀ c₂ (table_says 1 21 (omega arith) (omega arith))
    (zero_bare m₇ 1 21 (zero_again m₅ 21 9 (page_word 0 413696 everything) (zero_still m₄ 19 8 (table_word 21) 21 (omega arith) (omega arith) zero_21))) in
    changed_sound (unmap_done u₁ (inl (3, omega arith, table_something 20 everything (table_says 1 20 (omega arith) (omega arith)))))

-- Pages of 2 MiB at indices 1, 2, 5 and of 1 GiB at indices 1, 7 --------------------------------------------------------------------

abbrev read_only : Rights
read_only = record { writable = false; user = true; noexec = true }

abbrev middle : ℕ
middle = top + 2 * 2 ^ 30 + 5 * 2 ^ 21

abbrev large : ℕ
large = top + 7 * 2 ^ 30

abbrev m₉ : ℕ → ℕ
m₉ = set m₈ (at 19 5) (page_word 1 2097152 read_only)

-- THE WITNESS
abbrev pub memory : ℕ → ℕ
memory = set m₉ (at 18 7) (page_word 2 1073741824 everything)

abbrev pub roles : ℕ → Role
roles = r₅

with_middle : Sound setting m₉ r₅
unfolding set ℕ_discrete index_of size_of table_of roles₀
with_middle =
    let d₀ = down_start {va = middle} with_aside (comes_root (in_upper middle (omega arith) (omega arith))) in
    let d₁ = down_step 18 everything d₀ (table_says 3 18 (omega arith) (omega arith)) in
    let d₂ = down_step 19 everything d₁ (table_says 2 19 (omega arith) (omega arith)) in
    changed_sound (map_done (page_word 1 2097152 read_only) 2097152 read_only d₂ (nothing_says 1)
    (page_word_says 1 2097152 read_only middle_fits) (inr (omega arith)) (page_pat 1 2097152 read_only middle_fits))

pub witness : Sound setting memory roles
unfolding set ℕ_discrete index_of size_of table_of roles₀
witness =
    let d₀ = down_start {va = large} with_middle (comes_root (in_upper large (omega arith) (omega arith))) in
    let d₁ = down_step 18 everything d₀ (table_says 3 18 (omega arith) (omega arith)) in
    changed_sound (map_done (page_word 2 1073741824 everything) 1073741824 everything d₁ (nothing_says 2)
    (page_word_says 2 1073741824 everything large_fits) (inr (omega arith)) (page_pat 2 1073741824 everything large_fits))

-- what is there, computed
pub witness_roles : (roles 15 ≡ foreign) × (roles 16 ≡ book) × (roles 17 ≡ root) × (roles 18 ≡ table 3 17 257) × (roles 19 ≡ table 2 18 2)
    × (roles 20 ≡ table 1 19 3) × (roles 21 ≡ aside) × (roles 22 ≡ free) × (roles 23 ≡ free) × (roles 24 ≡ foreign)
unfolding set ℕ_discrete roles₀
witness_roles = (refl, refl, refl, refl, refl, refl, refl, refl, refl, refl)

pub witness_means : (meaning setting memory (small + 17) ≡ found.Page small 4096 409600 everything) × (meaning setting memory gone ≡ found.Nothing)
    × (meaning setting memory (middle + 4097) ≡ found.Page middle 2097152 2097152 read_only) × (meaning setting memory (large + 2 ^ 29) ≡ found.Page large 1073741824 1073741824 everything)
    × (meaning setting memory (2 ^ 47 + small) ≡ found.NoAddress)
unfolding walk start canonical run step_of entered found_of base_of index_of says present_of large_of padded frame_of rights_of table_of bit both size_of page_word table_word flag large_flag set ℕ_discrete
witness_means = (refl, refl, refl, refl, refl)
