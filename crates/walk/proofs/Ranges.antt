-- Pages and their ranges, whatever the bytes are: an address lies in its page, every address there gets that page, and so two pages' ranges never overlap; and
-- what is said of numbers that are no addresses.
use Rattle.std.proofs.Common.{◌≡◌, ℕ, zero, suc, ◌+◌, ◌/◌, ◌<◌, ◌≤◌, Bool, true, false, cond, ◌≢◌, ◌↔◌, sym, refl, ap, ◌∙◌, true≢false, arith}
use Rattle.entry.specs.Entry.{size_of, says, both, table_of, everything}
use Rattle.entry.specs.declared.Rights.{Rights}
use Rattle.entry.specs.declared.Entry.{Entry}
use Rattle.entry.specs.declared.Entry.TheVariants as entry
use Rattle.walk.specs.Walk.{canonical, base_of, entry_of, entered, step_of, run, start, found_of, walk}
use Rattle.walk.specs.declared.Found.{Found}
use Rattle.walk.specs.declared.Found.TheVariants.{Page, Nothing, Outside, NoAddress}
use Rattle.walk.specs.declared.Place.{Place}
use Rattle.walk.specs.declared.Place.TheVariants.{Going, Ended}
use Rattle.walk.proofs.Addresses.{near_canonical}
use Rattle.walk.proofs.Digits.{agree_up, same_index, same_base, base_le, base_above, in_range}
use Rattle.walk.proofs.Steps.{run_ended}

module _ (h : ℕ → Bool) (m : ℕ → ℕ) (va : ℕ) where
  -- the walk ends in a page of level k, and so does the walk of every address that agrees with va there
  record EndsAlike (n : ℕ) (p : Place) (b s f : ℕ) (r : Rights) : Type 0 where
    level : ℕ
    low : level < n
    base : b ≡ base_of level va
    size : s ≡ size_of level
    shared : (vb : ℕ) → vb / size_of level ≡ va / size_of level → found_of (run h m n vb p) ≡ Page b s f r

  -- a place that has ended in something else
  other : (n : ℕ) (g : Found) (b s f : ℕ) (r : Rights) → found_of (run h m n va (Ended g)) ≡ Page b s f r → g ≡ Page b s f r
  unfolding found_of
  other n g b s f r e = sym (ap found_of (run_ended h m n va g)) ∙ e

  ends : (n t : ℕ) (q : Rights) (b s f : ℕ) (r : Rights) → found_of (run h m n va (Going t q)) ≡ Page b s f r → EndsAlike n (Going t q) b s f r
  unfolding run step_of found_of entered
  ends zero t q b s f r e = let z : ◌≡◌ {A = ℕ} 0 1 = cc in absurd (omega arith)
  ends (suc n) t q b s f r e = go (h t) (says n (m (entry_of n va t))) refl refl (λ u g k. ends n u g b s f r k) e
    where
      go : (x : Bool) (w : Entry) → h t ≡ x → says n (m (entry_of n va t)) ≡ w
          → ((u : ℕ) (g : Rights) → found_of (run h m n va (Going u g)) ≡ Page b s f r → EndsAlike n (Going u g) b s f r)
          → found_of (run h m n va (cond x (entered n va q w) (Ended Outside))) ≡ Page b s f r → EndsAlike (suc n) (Going t q) b s f r
      go false w hx ew ih k = let z : ◌≡◌ {A = ℕ} 0 1 = cc (other n Outside b s f r k) in absurd (omega arith)
      go true entry.Nothing hx ew ih k = let z : ◌≡◌ {A = ℕ} 0 1 = cc (other n Nothing b s f r k) in absurd (omega arith)
      go true (entry.Page d g) hx ew ih k =
          let same = other n (Page (base_of n va) (size_of n) d (both q g)) b s f r k in
          record {
            level = n;
            low = omega arith;
            base = cc;
            size = cc;
            shared = λ vb y.
                rw (hx, same_index n vb va y, ew, same_base n vb va y, run_ended h m n vb (Page (base_of n va) (size_of n) d (both q g))) same;
          }
      go true (entry.Table u g) hx ew ih k =
          let o = ih u (both q g) k in
          record {
            level = o.level;
            low = omega (arith, o.low);
            base = o.base;
            size = o.size;
            shared = λ vb y.
                rw (hx, same_index n vb va (agree_up o.level n vb va (omega (arith, o.low)) y), ew) (o.shared vb y);
          }

-- what a walk that ends in a page shows
pub record Covers (h : ℕ → Bool) (m : ℕ → ℕ) (root va b s f : ℕ) (r : Rights) : Type 0 where
  pub address : canonical va ≡ true
  pub level : ℕ
  pub low : level < 4
  pub base : b ≡ base_of level va
  pub size : s ≡ size_of level
  pub begins : b ≤ va
  pub reaches : va < b + s
  pub everywhere : (vb : ℕ) → b ≤ vb → vb < b + s → walk h m root vb ≡ Page b s f r

-- EVERY ADDRESS OF A PAGE'S RANGE GETS THAT PAGE, and the address that found it lies there
pub page_covers : (h : ℕ → Bool) (m : ℕ → ℕ) (root va b s f : ℕ) (r : Rights) → walk h m root va ≡ Page b s f r → Covers h m root va b s f r
unfolding walk start
page_covers h m root va b s f r e = go (canonical va) refl e
  where
    covered : canonical va ≡ true → (k : ℕ) → k < 4 → b ≡ base_of k va → s ≡ size_of k
        → ((vb : ℕ) → vb / size_of k ≡ va / size_of k → found_of (run h m 4 vb (Going (table_of root) everything)) ≡ Page b s f r)
        → Covers h m root va b s f r
    covered u k low base size shared = record {
      address = u;
      level = k;
      low = low;
      base = base;
      size = size;
      begins = rw base (base_le k va);
      reaches = rw (base, size) (base_above k va);
      everywhere = λ vb x y.
          let x' : base_of k va ≤ vb = rw base at x in
          let y' : vb < base_of k va + size_of k = rw (base, size) at y in
          let near = in_range k va vb x' y' in
          rw (near_canonical k vb va low near ∙ u) (shared vb near);
    }

    go : (x : Bool) → canonical va ≡ x → found_of (run h m 4 va (cond x (Going (table_of root) everything) (Ended NoAddress))) ≡ Page b s f r → Covers h m root va b s f r
    go false n k = let z : ◌≡◌ {A = ℕ} 0 1 = cc (other h m va 4 NoAddress b s f r k) in absurd (omega arith)
    go true u k =
        let o = ends h m va 4 (table_of root) everything b s f r k in
        covered u o.level o.low o.base o.size o.shared

-- a walk that starts says of no number that it is no address
going_some : (h : ℕ → Bool) (m : ℕ → ℕ) (va n t : ℕ) (q : Rights) → found_of (run h m n va (Going t q)) ≢ NoAddress
unfolding run step_of found_of entered
going_some h m va zero t q = λ e. let z : ◌≡◌ {A = ℕ} 0 1 = cc in omega arith
going_some h m va (suc n) t q = go (h t) (says n (m (entry_of n va t))) (λ u g. going_some h m va n u g)
  where
    ended : (f : Found) → f ≢ NoAddress → found_of (run h m n va (Ended f)) ≢ NoAddress
    ended f d e = d (sym (ap found_of (run_ended h m n va f)) ∙ e)

    go : (x : Bool) (w : Entry) → ((u : ℕ) (g : Rights) → found_of (run h m n va (Going u g)) ≢ NoAddress)
        → found_of (run h m n va (cond x (entered n va q w) (Ended Outside))) ≢ NoAddress
    go false w ih = ended Outside (λ e. let z : ◌≡◌ {A = ℕ} 0 1 = cc in omega arith)
    go true entry.Nothing ih = ended Nothing (λ e. let z : ◌≡◌ {A = ℕ} 0 1 = cc in omega arith)
    go true (entry.Page d g) ih = ended (Page (base_of n va) (size_of n) d (both q g)) (λ e. let z : ◌≡◌ {A = ℕ} 0 1 = cc in omega arith)
    go true (entry.Table u g) ih = ih u (both q g)

-- NO ADDRESS IS SAID exactly of a number that is not canonical, whatever the bytes are.
pub no_address_only : (h : ℕ → Bool) (m : ℕ → ℕ) (root va : ℕ) → (walk h m root va ≡ NoAddress) ↔ (canonical va ≡ false)
unfolding walk start found_of
no_address_only h m root va = go (canonical va)
  where
    go : (b : Bool) → (found_of (run h m 4 va (cond b (Going (table_of root) everything) (Ended NoAddress))) ≡ NoAddress) ↔ (b ≡ false)
    go true = (λ e. absurd (going_some h m va 4 (table_of root) everything e), λ e. absurd (true≢false e))
    go false = (λ e. refl, λ e. ap found_of (run_ended h m 4 va NoAddress))

-- TWO PAGES' RANGES NEVER OVERLAP: pages that share an address are one page
pub pages_apart : (h : ℕ → Bool) (m : ℕ → ℕ) (root va vb b s f b' s' f' : ℕ) (r r' : Rights)
    → walk h m root va ≡ Page b s f r → walk h m root vb ≡ Page b' s' f' r'
    → (x : ℕ) → b ≤ x → x < b + s → b' ≤ x → x < b' + s' → Page b s f r ≡ Page b' s' f' r'
pages_apart h m root va vb b s f b' s' f' r r' e e' x u v u' v' =
    sym ((page_covers h m root va b s f r e).everywhere x u v) ∙ (page_covers h m root vb b' s' f' r' e').everywhere x u' v'
