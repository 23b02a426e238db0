-- Lists of legal moves of the book, from s, and runs of the task from all-zero: the same, with the same numbers.
use Rattle.std.proofs.Common.{◌≡◌, ℕ, zero, suc, ◌+◌, ◌<◌, Bool, true, false, ◌≢◌, List, [], ◌∷◌, map, length, sym, refl, ap, ◌∙◌, subst, inl, inr, arith, length-set}
use mathlib.Core.Option.{some}
use lib.ListN.{get_elem?}
use Rattle.std.proofs.lemmas.Bool.{cases_eq}
use Rattle.theory.specs.Searches.{In}
use Rattle.theory.specs.Tasks as tasks
use Rattle.theory.specs.Tasks.{Ask, any, Move, WellFormed, Run, ask_against}
use Rattle.theory.proofs.Searches.{none≢some}
use Rattle.rules.specs.Rules.{Rule, Rules, Errand, Setting, at, thrown, Throws, Leads, RulesWithin, ErrandWithin}
use Rattle.rules.specs.NormalForm.{exchanged_ask, normal_asks, normal_move, dropped?, normal_moves, task, exchange, number_of}
use Rattle.rules.proofs.NormalForm.{own_at_target, asks_own, asks_other, legal_normal, normal_legal, exchange_thrown}

-- the move at a place is one of the list
pub found_in : {A : Type 0} (xs : List A) (k : ℕ) (x : A) → get_elem? xs k ≡ some x → In xs x
found_in [] k x e = absurd (none≢some e)
found_in (y ∷ xs) zero x e = inl (cc)
found_in (y ∷ xs) (suc k) x e = inr (found_in xs k x e)

-- the move asks its own latch elsewhere than at its target
abbrev pub Free : Rule → Type 0
Free m = dropped? m ≡ false

-- a list with a move kept or dropped
kept : Setting → ℕ → Rule → List Rule → Bool → List Move
kept s k m ms own = elim own [ true ↦ normal_moves s (suc k) ms | false ↦ normal_move s k m ∷ normal_moves s (suc k) ms ]

-- a move that is not dropped is there in normal form, with its number
pub normal_in : (s : Setting) (ms : List Rule) (k j : ℕ) (m : Rule) → get_elem? ms j ≡ some m → Free m → In (normal_moves s k ms) (normal_move s (j + k) m)
unfolding kept
normal_in s [] k j m e free = absurd (none≢some e)
normal_in s (m₀ ∷ ms) k zero m e free =
    let same : m₀ ≡ m = cc in
    let here : zero + k ≡ k = omega arith in
    subst (λ ns. In ns (normal_move s (zero + k) m)) (sym (ap (kept s k m₀ ms) (ap (λ (x : Rule). dropped? x) same ∙ free)))
    (inl (ap (normal_move s k) same ∙ ap (λ i. normal_move s i m) (sym here)))
normal_in s (m₀ ∷ ms) k (suc j) m e free = go (dropped? m₀) refl (normal_in s ms (suc k) j m e free)
  where
    shift : j + suc k ≡ suc j + k
    shift = omega arith

    go : (b : Bool) → dropped? m₀ ≡ b → In (normal_moves s (suc k) ms) (normal_move s (j + suc k) m) → In (normal_moves s k (m₀ ∷ ms)) (normal_move s (suc j + k) m)
    go true d i = subst (λ ns. In ns (normal_move s (suc j + k) m)) (sym (ap (kept s k m₀ ms) d)) (subst (λ n. In (normal_moves s (suc k) ms) (normal_move s n m)) shift i)
    go false d i = subst (λ ns. In ns (normal_move s (suc j + k) m)) (sym (ap (kept s k m₀ ms) d)) (inr (subst (λ n. In (normal_moves s (suc k) ms) (normal_move s n m)) shift i))

-- a move in normal form stands for a move of the book that is not dropped
pub record Stands (s : Setting) (ms : List Rule) (k : ℕ) (n : Move) : Type 0 where
  pub place : ℕ
  pub rule : Rule
  pub at_place : get_elem? ms place ≡ some rule
  pub free : Free rule
  pub is : n ≡ normal_move s (place + k) rule

pub normal_from : (s : Setting) (ms : List Rule) (k : ℕ) (n : Move) → In (normal_moves s k ms) n → Stands s ms k n
unfolding kept
normal_from s [] k n i = absurd i
normal_from s (m ∷ ms) k n i = go (dropped? m) refl (λ j. normal_from s ms (suc k) n j)
  where
    behind : Stands s ms (suc k) n → Stands s (m ∷ ms) k n
    behind h =
        let shift : h.place + suc k ≡ suc h.place + k = omega arith in
        record { place = suc h.place; rule = h.rule; at_place = h.at_place; free = h.free; is = h.is ∙ ap (λ j. normal_move s j h.rule) shift }

    here : Free m → normal_move s k m ≡ n → Stands s (m ∷ ms) k n
    here f e =
        let none_before : k ≡ zero + k = omega arith in
        record { place = zero; rule = m; at_place = refl; free = f; is = sym e ∙ ap (λ j. normal_move s j m) none_before }

    go : (b : Bool) → dropped? m ≡ b → (In (normal_moves s (suc k) ms) n → Stands s ms (suc k) n) → Stands s (m ∷ ms) k n
    go true d ih = behind (ih (subst (λ ns. In ns n) (ap (kept s k m ms) d) i))
    go false d ih = elim (subst (λ ns. In ns n) (ap (kept s k m ms) d) i) [ inl e ↦ here d e | inr j ↦ behind (ih j) ]

-- nothing is asked exchanged where nothing is asked
any_exchanged : (a : Ask) (b : Bool) → exchanged_ask a b ≢ any → a ≢ any
any_exchanged a b n e = n (ap (λ x. exchanged_ask x b) e)

-- the task of a book that exists, and of an errand of its latches, is well-formed
module _ (r : Rules) (well : RulesWithin r) (s : Setting) (w : Errand) (within : ErrandWithin r w) where
  throws_within : (n : Move) → In (normal_moves s 0 r.moves) n → n.latch < r.latches
  throws_within n i =
      let h = normal_from s r.moves 0 n i in
      subst (λ (x : Move). x.latch < r.latches) (sym h.is) (well.throws_within h.rule (found_in r.moves h.place h.rule h.at_place))

  rule_asks_within : (m : Rule) → In r.moves m → (u : ℕ) → normal_asks s m u ≢ any → u < r.latches
  rule_asks_within m i u n =
      elim (cases_eq u m.latch) [
        | inl d ↦ subst (λ v. v < r.latches) (sym d) (well.throws_within m i)
        | inr d ↦ well.asks_within m i u (any_exchanged (m.asks u) (at s u) (λ e. n (asks_other s m u d ∙ e)))
      ]

  asks_within : (n : Move) → In (normal_moves s 0 r.moves) n → (u : ℕ) → n.asks u ≢ any → u < r.latches
  asks_within n i u a =
      let h = normal_from s r.moves 0 n i in
      rule_asks_within h.rule (found_in r.moves h.place h.rule h.at_place) u
      (λ e. a (ap (λ (x : Move). x.asks u) h.is ∙ e))

  own_opposite : (n : Move) → In (normal_moves s 0 r.moves) n → n.asks n.latch ≡ ask_against n.to
  own_opposite n i =
      let h = normal_from s r.moves 0 n i in
      subst (λ (x : Move). x.asks x.latch ≡ ask_against x.to) (sym h.is) (asks_own s h.rule h.rule.latch refl)

  pub task_well_formed : WellFormed (task r s w)
  task_well_formed = record {
    latch_within = throws_within;
    asks_within = asks_within;
    asks_own = own_opposite;
    want_within = λ u n. within u (any_exchanged (w u) (at s u) n);
  }

  -- one legal move of the book is one move of the task, with the same number
  abbrev ThrownSo : ℕ → Setting → Setting → Type 0
  ThrownSo k e f = (n : Move) × (n.number ≡ k) × In (task r s w).moves n × tasks.Legal (exchange s e) n × (exchange s f ≡ tasks.thrown (exchange s e) n)

  throw_run : (k : ℕ) (e f : Setting) → length e ≡ r.latches → Throws r k e f → ThrownSo k e f
  throw_run k e f l (m, h) =
      let own = own_at_target (m.asks m.latch) (at e m.latch) m.to (h.1.0.1 m.latch) h.1.0.0 in
      let below = well.throws_within m (found_in r.moves k m h.0) in (
        normal_move s (k + 0) m,
        omega arith,
        normal_in s r.moves 0 k m h.0 own,
        legal_normal s e (k + 0) m h.1.0,
        ap (exchange s) h.1.1 ∙ exchange_thrown s e (k + 0) m (subst (λ n. m.latch < n) (sym l) below),
      )

  -- and the other way
  abbrev MadeSo : Move → Setting → Type 0
  MadeSo n e = (f : Setting) × Throws r n.number e f × (length f ≡ r.latches) × (exchange s f ≡ tasks.thrown (exchange s e) n)

  run_throw : (n : Move) (e : Setting) → length e ≡ r.latches → In (task r s w).moves n → tasks.Legal (exchange s e) n → MadeSo n e
  run_throw n e l i legal =
      let h = normal_from s r.moves 0 n i in
      let m = h.rule in
      let below = well.throws_within m (found_in r.moves h.place m h.at_place) in
      let same : n.number ≡ h.place = ap number_of h.is ∙ omega arith in (
        thrown e m,
        (m, (ap (get_elem? r.moves) same ∙ h.at_place, (normal_legal s e (h.place + 0) m h.free (subst (tasks.Legal (exchange s e)) h.is legal), refl))),
        length-set e m.latch m.to ∙ l,
        exchange_thrown s e (h.place + 0) m (subst (λ k. m.latch < k) (sym l) below) ∙ ap (tasks.thrown (exchange s e)) (sym h.is),
      )

  -- legal moves of the book are a run of the task
  abbrev pub RunsSo : List ℕ → Setting → Setting → Type 0
  RunsSo ks e f = (ms : List Move) × ((map number_of ms ≡ ks) × Run (task r s w) ms (exchange s e) (exchange s f))

  pub leads_run : (ks : List ℕ) (e f : Setting) → length e ≡ r.latches → Leads r ks e f → RunsSo ks e f
  leads_run [] e f l h = ([], (refl, ap (exchange s) h))
  leads_run (k ∷ ks) e f l (g, h) =
      let one = throw_run k e g l h.0 in
      let more = leads_run ks g f (ap length h.0.1.1.1 ∙ length-set e h.0.0.latch h.0.0.to ∙ l) h.1 in (
        one.0 ∷ more.0,
        (
          (let p = one.1 in let q = more.1.0 in cc),
          (one.2, one.3, subst (λ z. Run (task r s w) more.0 z (exchange s f)) one.4 more.1.1),
        ),
      )

  -- a run of the task is legal moves of the book
  abbrev pub LeadsSo : List Move → Setting → tasks.Setting → Type 0
  LeadsSo ms e g = (f : Setting) × (Leads r (map number_of ms) e f × (exchange s f ≡ g))

  pub run_leads : (ms : List Move) (e : Setting) (g : tasks.Setting) → length e ≡ r.latches → Run (task r s w) ms (exchange s e) g → LeadsSo ms e g
  run_leads [] e g l h = (e, (refl, h))
  run_leads (n ∷ ms) e g l h =
      let one = run_throw n e l h.0 h.1 in
      let more = run_leads ms one.0 g one.2 (subst (λ z. Run (task r s w) ms z g) (sym one.3) h.2) in
      (more.0, ((one.0, (one.1, more.1.0)), more.1.1))
