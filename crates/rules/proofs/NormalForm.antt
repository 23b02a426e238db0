-- One move in normal form: it is legal, and leaves what it leaves, just as the move of the book that it stands for.
use Rattle.std.proofs.Common.{◌≡◌, ℕ, ◌<◌, Bool, true, false, not, ◌≢◌, length, sym, refl, ap, ◌∙◌, subst, inl, inr, get_or-set_other, get_or-set_same}
use mathlib.Core.Path.{fun_ext}
use Rattle.std.proofs.lemmas.Bool.{both_ways, not-true, not-false, false_from_ne_true, true_from_ne_false, cases_eq, eq-eqb, ne_eqb}
use Rattle.theory.specs.Tasks as tasks
use Rattle.theory.specs.Tasks.{Ask, any, at_zero, at_one, Met, put, all_zero, Meets, asks?, ask_against}
use Rattle.theory.proofs.Running.{put_same, put_other}
use Rattle.rules.specs.Rules.{Rule, Rules, Errand, Setting, at, Legal, thrown, MetBy}
use Rattle.rules.specs.NormalForm.{exchanged, exchanged_ask, normal_asks, normal_move, dropped?, task, exchange}

-- the start, exchanged, is all zero
exchanged_self : (b : Bool) → exchanged b b ≡ false
exchanged_self true = refl
exchanged_self false = refl

pub exchange_start : (s : Setting) → exchange s s ≡ all_zero
exchange_start s = fun_ext (λ u. exchanged_self (at s u))

-- what is asked is met just when it is met exchanged
pub met_exchanged : (a : Ask) (p b : Bool) → Met a p → Met (exchanged_ask a b) (exchanged p b)
met_exchanged any p b h = tt
met_exchanged at_zero p false h = h
met_exchanged at_zero p true h = ap not h
met_exchanged at_one p false h = h
met_exchanged at_one p true h = ap not h

pub exchanged_met : (a : Ask) (p b : Bool) → Met (exchanged_ask a b) (exchanged p b) → Met a p
exchanged_met any p b h = tt
exchanged_met at_zero p false h = h
exchanged_met at_zero p true h = not-true p h
exchanged_met at_one p false h = h
exchanged_met at_one p true h = not-false p h

-- a latch is not yet at its target just when it stands, exchanged, opposite to it
opposite_met : (p to b : Bool) → p ≢ to → Met (ask_against (exchanged to b)) (exchanged p b)
opposite_met true true b n = absurd (n refl)
opposite_met false false b n = absurd (n refl)
opposite_met true false true n = refl
opposite_met true false false n = refl
opposite_met false true true n = refl
opposite_met false true false n = refl

met_opposite : (p to b : Bool) → Met (ask_against (exchanged to b)) (exchanged p b) → p ≢ to
met_opposite true true true h = absurd (both_ways true (sym h) refl)
met_opposite true true false h = absurd (both_ways true h refl)
met_opposite false false true h = absurd (both_ways true h refl)
met_opposite false false false h = absurd (both_ways true (sym h) refl)
met_opposite true false b h = λ e. both_ways true e refl
met_opposite false true b h = λ e. both_ways true (sym e) refl

-- a move that does not ask its own latch at its target asks of it no more than that it is not there
own_met : (a : Ask) (p to : Bool) → asks? to a ≡ false → p ≢ to → Met a p
own_met any p to h n = tt
own_met at_zero p true h n = false_from_ne_true p n
own_met at_zero p false h n = absurd (both_ways true h refl)
own_met at_one p true h n = absurd (both_ways true h refl)
own_met at_one p false h n = true_from_ne_false p n

-- a move that asks its own latch at its target is never legal
pub own_at_target : (a : Ask) (p to : Bool) → Met a p → p ≢ to → asks? to a ≡ false
own_at_target any p to h n = refl
own_at_target at_zero p true h n = refl
own_at_target at_zero p false h n = absurd (n h)
own_at_target at_one p true h n = absurd (n h)
own_at_target at_one p false h n = refl

-- what a move in normal form asks
pick : Setting → Rule → ℕ → Bool → Ask
pick s m u own = elim own [ true ↦ ask_against (exchanged m.to (at s u)) | false ↦ exchanged_ask (m.asks u) (at s u) ]

pub asks_own : (s : Setting) (m : Rule) (u : ℕ) → u ≡ m.latch → normal_asks s m u ≡ ask_against (exchanged m.to (at s u))
unfolding pick
asks_own s m u e = ap (pick s m u) (eq-eqb u m.latch e)

pub asks_other : (s : Setting) (m : Rule) (u : ℕ) → u ≢ m.latch → normal_asks s m u ≡ exchanged_ask (m.asks u) (at s u)
unfolding pick
asks_other s m u n = ap (pick s m u) (ne_eqb u m.latch n)

-- legal as it stands, and so in normal form; and back, unless it asks its own latch at its target
pub legal_normal : (s e : Setting) (k : ℕ) (m : Rule) → Legal e m → tasks.Legal (exchange s e) (normal_move s k m)
legal_normal s e k m h u =
    elim (cases_eq u m.latch) [
      | inl d ↦
          subst (λ a. Met a (exchange s e u)) (sym (asks_own s m u d))
          (opposite_met (at e u) m.to (at s u) (λ q. h.0 (sym (ap (at e) d) ∙ q)))
      | inr n ↦ subst (λ a. Met a (exchange s e u)) (sym (asks_other s m u n)) (met_exchanged (m.asks u) (at e u) (at s u) (h.1 u))
    ]

pub normal_legal : (s e : Setting) (k : ℕ) (m : Rule) → dropped? m ≡ false → tasks.Legal (exchange s e) (normal_move s k m) → Legal e m
normal_legal s e k m free h = (away, met)
  where
    away : at e m.latch ≢ m.to
    away = met_opposite (at e m.latch) m.to (at s m.latch)
        (subst (λ a. Met a (exchange s e m.latch)) (asks_own s m m.latch refl) (h m.latch))

    met : (u : ℕ) → Met (m.asks u) (at e u)
    met u =
        elim (cases_eq m.latch u) [
          | inl d ↦ subst (λ v. Met (m.asks v) (at e v)) d (own_met (m.asks m.latch) (at e m.latch) m.to free away)
          | inr n ↦
              exchanged_met (m.asks u) (at e u) (at s u)
              (subst (λ a. Met a (exchange s e u)) (asks_other s m u (λ d. n (sym d))) (h u))
        ]

-- what the move leaves, exchanged, is what it leaves in normal form
pub exchange_thrown : (s e : Setting) (k : ℕ) (m : Rule) → m.latch < length e → exchange s (thrown e m) ≡ tasks.thrown (exchange s e) (normal_move s k m)
exchange_thrown s e k m l = fun_ext go
  where
    go : (u : ℕ) → exchange s (thrown e m) u ≡ put (exchange s e) m.latch (exchanged m.to (at s m.latch)) u
    go u =
        elim (cases_eq m.latch u) [
          | inl d ↦
              sym (ap (exchange s (thrown e m)) d)
              ∙ ap (λ p. exchanged p (at s m.latch)) (get_or-set_same e m.latch m.to false l)
              ∙ sym (put_same (exchange s e) m.latch _ u d)
          | inr n ↦
              ap (λ p. exchanged p (at s u)) (get_or-set_other e m.latch u m.to false (λ d. n (sym d)))
              ∙ sym (put_other (exchange s e) m.latch _ u n)
        ]

-- the errand is met just when the want of the task is
pub met_meets : (r : Rules) (s : Setting) (w : Errand) (e : Setting) → MetBy w e → Meets (task r s w).want (exchange s e)
met_meets r s w e h u = met_exchanged (w u) (at e u) (at s u) (h u)

pub meets_met : (r : Rules) (s : Setting) (w : Errand) (e : Setting) → Meets (task r s w).want (exchange s e) → MetBy w e
meets_met r s w e h u = exchanged_met (w u) (at e u) (at s u) (h u)
