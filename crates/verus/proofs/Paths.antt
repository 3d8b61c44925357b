-- LEMMA_PT_WALK, for any memory; and the source's walk by its way is the one of specs/Walks.antt.
use Prim.Native.Nat.{ℕ, zero, suc, ◌-◌, ◌/◌, ◌%◌, ◌^◌, ◌<◌, ◌≤◌}
use mathlib.Core.Bool.{true}
use mathlib.Core.List.{List, [], ◌∷◌}
use mathlib.Core.Logic.{◌≢◌}
use mathlib.Core.Option.{some}
use mathlib.Core.Path.{◌≡◌, refl, sym, ap, ◌∙◌, subst}
use native.Mathlib.Omega.{arith}
use lib.ListN.{length}
use Rattle.word.specs.Memory.{at}
use Rattle.entry.specs.Entry.{bit, says}
use Rattle.entry.specs.declared.Rights.{Rights}
use Rattle.entry.specs.declared.Entry.{Entry}
use Rattle.entry.specs.declared.Entry.TheVariants.{Nothing, Page, Table}
use Rattle.entry.proofs.Fields.{last_no_table}
use Rattle.entry.proofs.Parts.{root_no_page}
use Rattle.verus.specs.Regions.{Flags, PTE, combine}
use Rattle.verus.specs.Walks.{Valid, invalid, layer0, layer1, layer2, layer3, pt_walk}
use Rattle.verus.specs.Paths.{Stop, stop, beyond0, beyond1, beyond2, pt_path, from_entry, ended, result, stop_at, IsDirectory, PtWalkFacts}
use Rattle.verus.proofs.Entries.{present_bit}

-- The same walk ------------------------------------------------------------------------------------------------------------------------

module _ (m : ℕ → ℕ) (va : ℕ) where
  same3 : (a b c d : Stop) → result va (a ∷ b ∷ c ∷ d ∷ []) ≡ layer3 va (combine (combine (from_entry a.entry) (from_entry b.entry)) (from_entry c.entry)) d.entry
  unfolding result
  same3 a b c d = go d.entry
    where
      go : (e : Entry) → ended va 4096 (combine (combine (from_entry a.entry) (from_entry b.entry)) (from_entry c.entry)) e
          ≡ layer3 va (combine (combine (from_entry a.entry) (from_entry b.entry)) (from_entry c.entry)) e
      go Nothing = unfold ended layer3 in refl
      go (Page f g) = unfold ended layer3 in refl
      go (Table t g) = unfold ended layer3 in refl

  same2 : (a b c : Stop) (e : Entry) → c.entry ≡ e → result va (a ∷ b ∷ c ∷ beyond2 m va e) ≡ layer2 m va (combine (from_entry a.entry) (from_entry b.entry)) e
  unfolding beyond2 layer2 from_entry
  same2 a b c Nothing k = unfold result ended in rw k
  same2 a b c (Page f g) k = unfold result ended in rw k
  same2 a b c (Table t g) k =
      same3 a b c (stop m 0 t (va / 2 ^ 12 % 512))
      ∙ ap (λ y. layer3 va (combine (combine (from_entry a.entry) (from_entry b.entry)) (from_entry y)) (says 0 (m (at t (va / 2 ^ 12 % 512))))) k

  same1 : (a b : Stop) (e : Entry) → b.entry ≡ e → result va (a ∷ b ∷ beyond1 m va e) ≡ layer1 m va (from_entry a.entry) e
  unfolding beyond1 layer1 from_entry
  same1 a b Nothing k = unfold result ended in rw k
  same1 a b (Page f g) k = unfold result ended in rw k
  same1 a b (Table t g) k =
      same2 a b (stop m 1 t (va / 2 ^ 21 % 512)) (says 1 (m (at t (va / 2 ^ 21 % 512)))) refl
      ∙ ap (λ y. layer2 m va (combine (from_entry a.entry) (from_entry y)) (says 1 (m (at t (va / 2 ^ 21 % 512))))) k

  same0 : (a : Stop) (e : Entry) → a.entry ≡ e → ((f : ℕ) (g : Rights) → e ≢ Page f g) → result va (a ∷ beyond0 m va e) ≡ layer0 m va e
  unfolding beyond0 layer0 from_entry
  same0 a Nothing k n = unfold result in refl
  same0 a (Page f g) k n = absurd (n f g refl)
  same0 a (Table t g) k n =
      same1 a (stop m 2 t (va / 2 ^ 30 % 512)) (says 2 (m (at t (va / 2 ^ 30 % 512)))) refl
      ∙ ap (λ y. layer1 m va (from_entry y) (says 2 (m (at t (va / 2 ^ 30 % 512))))) k

-- THE WALK BY ITS WAY, and its result
pub path_is_walk : (m : ℕ → ℕ) (pml4 va : ℕ) → result va (pt_path m pml4 va) ≡ pt_walk m pml4 va
unfolding pt_path pt_walk
path_is_walk m pml4 va = same0 m va (stop m 3 pml4 (va / 2 ^ 39 % 512)) (says 3 (m (at pml4 (va / 2 ^ 39 % 512)))) refl (λ f g. root_no_page _ f g)

-- A way, from the top ------------------------------------------------------------------------------------------------------------------

-- each entry is what its word says; it goes on at directories, and ends at anything else
data Trail (m : ℕ → ℕ) : ℕ → List Stop → Type 0 where
  ends : {l : ℕ} (x : Stop) → x.entry ≡ says l (m x.word) → ¬ IsDirectory x.entry → Trail m l (x ∷ [])
  goes : {l : ℕ} (x : Stop) (rest : List Stop) → x.entry ≡ says (suc l) (m x.word) → IsDirectory x.entry → Trail m l rest → Trail m (suc l) (x ∷ rest)

module _ (m : ℕ → ℕ) (va : ℕ) where
  no_directory_nothing : ¬ IsDirectory Nothing
  no_directory_nothing k = let e : ◌≡◌ {A = Entry} Nothing (Table k.0 k.1) = k.2 in let z : ◌≡◌ {A = ℕ} 0 1 = cc in omega arith

  no_directory_page : (f : ℕ) (g : Rights) → ¬ IsDirectory (Page f g)
  no_directory_page f g k = let e : ◌≡◌ {A = Entry} (Page f g) (Table k.0 k.1) = k.2 in let z : ◌≡◌ {A = ℕ} 0 1 = cc in omega arith

  trail3 : (t : ℕ) → Trail m 0 (stop m 0 t (va / 2 ^ 12 % 512) ∷ [])
  trail3 t = ends _ refl (λ k. last_no_table _ k.0 k.1 k.2)

  trail2 : (x : Stop) (e : Entry) → x.entry ≡ e → x.entry ≡ says 1 (m x.word) → Trail m 1 (x ∷ beyond2 m va e)
  unfolding beyond2
  trail2 x Nothing k s = ends x s (subst (λ y. ¬ IsDirectory y) (sym k) no_directory_nothing)
  trail2 x (Page f g) k s = ends x s (subst (λ y. ¬ IsDirectory y) (sym k) (no_directory_page f g))
  trail2 x (Table t g) k s = goes x _ s (t, g, k) (trail3 t)

  trail1 : (x : Stop) (e : Entry) → x.entry ≡ e → x.entry ≡ says 2 (m x.word) → Trail m 2 (x ∷ beyond1 m va e)
  unfolding beyond1
  trail1 x Nothing k s = ends x s (subst (λ y. ¬ IsDirectory y) (sym k) no_directory_nothing)
  trail1 x (Page f g) k s = ends x s (subst (λ y. ¬ IsDirectory y) (sym k) (no_directory_page f g))
  trail1 x (Table t g) k s = goes x _ s (t, g, k) (trail2 (stop m 1 t (va / 2 ^ 21 % 512)) _ refl refl)

  trail0 : (x : Stop) (e : Entry) → x.entry ≡ e → x.entry ≡ says 3 (m x.word) → Trail m 3 (x ∷ beyond0 m va e)
  unfolding beyond0
  trail0 x Nothing k s = ends x s (subst (λ y. ¬ IsDirectory y) (sym k) no_directory_nothing)
  trail0 x (Page f g) k s = ends x s (subst (λ y. ¬ IsDirectory y) (sym k) (no_directory_page f g))
  trail0 x (Table t g) k s = goes x _ s (t, g, k) (trail1 (stop m 2 t (va / 2 ^ 30 % 512)) _ refl refl)

  path_trail : (pml4 : ℕ) → Trail m 3 (pt_path m pml4 va)
  unfolding pt_path
  path_trail pml4 = trail0 (stop m 3 pml4 (va / 2 ^ 39 % 512)) _ refl refl

no_stop : {A : Type 0} (i : ℕ) (x : Stop) → stop_at [] i ≡ some x → A
unfolding stop_at
no_stop i x e = let z : ◌≡◌ {A = ℕ} 0 1 = cc in absurd (omega arith)

module _ {m : ℕ → ℕ} where
  trail_some : {l : ℕ} {path : List Stop} → Trail m l path → 0 < length path
  trail_some (ends x s n) = omega arith
  trail_some (goes x rest s d t) = omega arith

  trail_few : {l : ℕ} {path : List Stop} → Trail m l path → length path ≤ suc l
  trail_few (ends x s n) = omega arith
  trail_few (goes x rest s d t) = omega (arith, trail_few t)

  trail_directories : {l : ℕ} {path : List Stop} → Trail m l path → (i : ℕ) (y : Stop) → stop_at path i ≡ some y → suc i < length path → IsDirectory y.entry × (bit 0 (m y.word) ≡ true)
  unfolding stop_at
  trail_directories (ends x s n) i y e u = absurd (omega arith)
  trail_directories {l = suc l} (goes x rest s d t) zero y e u =
      let same : x ≡ y = cc in
      subst (λ z. IsDirectory z.entry × (bit 0 (m z.word) ≡ true)) same (d, present_bit (suc l) (m x.word) (λ k. no_directory_nothing m 0 (subst IsDirectory (s ∙ k) d)))
  trail_directories (goes x rest s d t) (suc i) y e u = trail_directories t i y e (omega arith)

  trail_last : {l : ℕ} {path : List Stop} → Trail m l path → (i : ℕ) (y : Stop) → stop_at path i ≡ some y → suc i ≡ length path → ¬ IsDirectory y.entry
  unfolding stop_at
  trail_last (ends x s n) zero y e u = let same : x ≡ y = cc in subst (λ (z : Stop). ¬ IsDirectory z.entry) same n
  trail_last (ends x s n) (suc i) y e u = no_stop i y e
  trail_last (goes x rest s d t) zero y e u = absurd (omega (arith, trail_some t))
  trail_last (goes x rest s d t) (suc i) y e u = trail_last t i y e (omega arith)

  trail_said : {l : ℕ} {path : List Stop} → Trail m l path → (i k : ℕ) (y : Stop) → k ≡ l - i → stop_at path i ≡ some y → y.entry ≡ says k (m y.word)
  unfolding stop_at
  trail_said {l = l} (ends x s n) zero k y q e =
      let same : x ≡ y = cc in
      let here : l ≡ k = omega arith in
      subst (λ (z : Stop). z.entry ≡ says k (m z.word)) same (subst (λ j. x.entry ≡ says j (m x.word)) here s)
  trail_said (ends x s n) (suc i) k y q e = no_stop i y e
  trail_said {l = suc l} (goes x rest s d t) zero k y q e =
      let same : x ≡ y = cc in
      let here : suc l ≡ k = omega arith in
      subst (λ (z : Stop). z.entry ≡ says k (m z.word)) same (subst (λ j. x.entry ≡ says j (m x.word)) here s)
  trail_said {l = suc l} (goes x rest s d t) (suc i) k y q e = trail_said t i k y (omega arith) e

ended_nothing : (va size : ℕ) (flags : Flags) (x : Entry) → x ≡ Nothing → (vbase : ℕ) (p : PTE) → ended va size flags x ≡ Valid vbase p → ⊥
unfolding ended
ended_nothing va size flags x n vbase p r = never (rw n at r)
  where
    never : invalid va ≡ Valid vbase p → ⊥
    never k = let z : ◌≡◌ {A = ℕ} 0 1 = cc in omega arith

-- a way that ends at nothing has no valid result
nothing_ends : (va : ℕ) (path : List Stop) (i : ℕ) (x : Stop) → stop_at path i ≡ some x → suc i ≡ length path → length path ≤ 4 → x.entry ≡ Nothing
    → (vbase : ℕ) (p : PTE) → result va path ≡ Valid vbase p → ⊥
unfolding stop_at result
nothing_ends va [] i x e u v n vbase p r = no_stop i x e
nothing_ends va (a ∷ []) i x e u v n vbase p r = never r
  where
    never : invalid va ≡ Valid vbase p → ⊥
    never k = let z : ◌≡◌ {A = ℕ} 0 1 = cc in omega arith
nothing_ends va (a ∷ b ∷ []) zero x e u v n vbase p r = omega arith
nothing_ends va (a ∷ b ∷ []) (suc zero) x e u v n vbase p r = let same : b ≡ x = cc in ended_nothing va _ _ _ (ap (λ (y : Stop). y.entry) same ∙ n) vbase p r
nothing_ends va (a ∷ b ∷ []) (suc (suc i)) x e u v n vbase p r = no_stop i x e
nothing_ends va (a ∷ b ∷ c ∷ []) zero x e u v n vbase p r = omega arith
nothing_ends va (a ∷ b ∷ c ∷ []) (suc zero) x e u v n vbase p r = omega arith
nothing_ends va (a ∷ b ∷ c ∷ []) (suc (suc zero)) x e u v n vbase p r = let same : c ≡ x = cc in ended_nothing va _ _ _ (ap (λ (y : Stop). y.entry) same ∙ n) vbase p r
nothing_ends va (a ∷ b ∷ c ∷ []) (suc (suc (suc i))) x e u v n vbase p r = no_stop i x e
nothing_ends va (a ∷ b ∷ c ∷ d ∷ []) zero x e u v n vbase p r = omega arith
nothing_ends va (a ∷ b ∷ c ∷ d ∷ []) (suc zero) x e u v n vbase p r = omega arith
nothing_ends va (a ∷ b ∷ c ∷ d ∷ []) (suc (suc zero)) x e u v n vbase p r = omega arith
nothing_ends va (a ∷ b ∷ c ∷ d ∷ []) (suc (suc (suc zero))) x e u v n vbase p r = let same : d ≡ x = cc in ended_nothing va _ _ _ (ap (λ (y : Stop). y.entry) same ∙ n) vbase p r
nothing_ends va (a ∷ b ∷ c ∷ d ∷ []) (suc (suc (suc (suc i)))) x e u v n vbase p r = no_stop i x e
nothing_ends va (a ∷ b ∷ c ∷ d ∷ f ∷ rest) i x e u v n vbase p r = omega arith

-- LEMMA_PT_WALK
pub lemma_pt_walk : (m : ℕ → ℕ) (pml4 va : ℕ) → PtWalkFacts m va (pt_path m pml4 va)
lemma_pt_walk m pml4 va = record {
  some_entry = trail_some t;
  few_entries = trail_few t;
  directories = trail_directories t;
  last_none = trail_last t;
  entry_said = λ i x e. trail_said t i (3 - i) x refl e;
  last_present = λ vbase p r i x e u. present_bit (3 - i) (m x.word) (λ k. nothing_ends va (pt_path m pml4 va) i x e u (trail_few t) (trail_said t i (3 - i) x refl e ∙ k) vbase p r);
}
  where
    t : Trail m 3 (pt_path m pml4 va)
    t = path_trail m va pml4
