-- The moves of a book brought to normal form one after another, and the task that they make.
use Rattle.std.proofs.Common.{◌≡◌, ℕ, zero, suc, ◌+◌, ◌<◌, ◌≤◌, Bool, true, false, cond, not, List, [], ◌∷◌, ◌++◌, map, length, get_or, take, sym, refl, ap, ◌∙◌, subst, inl, inr, arith}
use mathlib.Core.Path.{fun_ext}
use mathlib.Core.Option.{none, some}
use Rattle.std.proofs.lemmas.List.{append-nil, length-map, length-take-le, length_push, get_or-take, get_or_read, map_push, map_more}
use Rattle.words.specs.declared.LatchSet.{LatchSet}
use Rattle.words.specs.Sets.{has, Below}
use Rattle.book.specs.declared.book.Book.{Book}
use Rattle.book.specs.declared.moves.Move.{Move as BookMove}
use Rattle.book.specs.declared.partial.PartialSetting.{PartialSetting}
use Rattle.book.specs.Places.{move_at, no_move}
use Rattle.theory.specs.Searches.{In}
use Rattle.theory.specs.Tasks.{Task, Move, WellFormed, ask_against}
use Rattle.rules.specs.Rules.{Rule, Setting, at}
use Rattle.rules.specs.NormalForm.{exchanged_ask, normal_move, dropped?, normal_moves, task}
use Rattle.rules.proofs.Leading.{task_well_formed}
use Rattle.tasks.specs.declared.task.NormalMove.{NormalMove}
use Rattle.tasks.specs.Asks.{ask_from, asks_of, rule_of, rules_of, setting_of}
use Rattle.tasks.specs.Places as places
use Rattle.tasks.specs.Tasks.{move_of}
use Rattle.tasks.proofs.Bridge.{named_asked, book_within, want_within, exchanged_at}

-- a list with a move kept or dropped
kept : Setting → ℕ → Rule → List Rule → Bool → List Move
kept s k m ms own = elim own [ true ↦ normal_moves s (suc k) ms | false ↦ normal_move s k m ∷ normal_moves s (suc k) ms ]

-- lists one after the other, in normal form
normal_append : (s : Setting) (k : ℕ) (xs ys : List Rule) → normal_moves s k (xs ++ ys) ≡ normal_moves s k xs ++ normal_moves s (length xs + k) ys
unfolding kept
normal_append s k [] ys = let e : k ≡ 0 + k = omega arith in ap (λ (j : ℕ). normal_moves s j ys) e
normal_append s k (x ∷ xs) ys =
    go (dropped? x) (normal_append s (suc k) xs ys ∙ ap (λ (j : ℕ). normal_moves s (suc k) xs ++ normal_moves s j ys) shift)
  where
    shift : length xs + suc k ≡ length (x ∷ xs) + k
    shift = omega arith

    go :
        (b : Bool) → normal_moves s (suc k) (xs ++ ys) ≡ normal_moves s (suc k) xs ++ normal_moves s (length (x ∷ xs) + k) ys →
        kept s k x (xs ++ ys) b ≡ kept s k x xs b ++ normal_moves s (length (x ∷ xs) + k) ys
    go true h = h
    go false h = ap (λ (ms : List Move). normal_move s k x ∷ ms) h

-- one more move, dropped or kept
push_dropped : (s : Setting) (xs : List Rule) (x : Rule) → dropped? x ≡ true → normal_moves s 0 (xs ++ (x ∷ [])) ≡ normal_moves s 0 xs
unfolding kept
push_dropped s xs x d =
    normal_append s 0 xs (x ∷ [])
    ∙ ap (λ (ms : List Move). normal_moves s 0 xs ++ ms) (ap (kept s (length xs + 0) x []) d)
    ∙ append-nil (normal_moves s 0 xs)

push_kept :
    (s : Setting) (xs : List Rule) (x : Rule) (i : ℕ) → length xs ≡ i → dropped? x ≡ false →
    normal_moves s 0 (xs ++ (x ∷ [])) ≡ normal_moves s 0 xs ++ (normal_move s i x ∷ [])
unfolding kept
push_kept s xs x i l d =
    let e : length xs + 0 ≡ i = omega arith in
    normal_append s 0 xs (x ∷ [])
    ∙ ap (λ (ms : List Move). normal_moves s 0 xs ++ ms) (ap (kept s (length xs + 0) x []) d ∙ ap (λ (j : ℕ). normal_move s j x ∷ []) e)

-- the first i moves of the book in normal form
abbrev first_moves : Book → LatchSet → ℕ → List Move
first_moves b start i = normal_moves (setting_of b.latches start) 0 (map rule_of (take i b.moves))

-- the first i moves of the book are brought to normal form
pub record Brought (b : Book) (start : LatchSet) (i : ℕ) (moves : List NormalMove) : Type 0 where
  pub fewer : length moves ≤ i
  pub same : map move_of moves ≡ first_moves b start i

-- a move that is read among the moves of the book stands at a place there
abbrev pub Read : Book → ℕ → BookMove → Type 0
Read b i m = (i < b.count) × (m ≡ move_at b.moves i)

-- the moves of the book are as many as it counts
book_count : (b : Book) → length (take b.count b.moves) ≡ b.count
book_count b = length-take-le b.count b.moves (omega (arith, b.room, b.move_places))

pub book_read :
    (b : Book) (ms : List BookMove) (i : ℕ) (m : BookMove) → ms ≡ take b.count b.moves → i < length ms → m ≡ get_or ms i m → Read b i m
book_read b ms i m h l e =
    let inside : i < b.count = omega (arith, book_count b, ap (λ (ks : List BookMove). length ks) h) in (
      inside,
      get_or_read ms i m l e no_move
          ∙ ap (λ (ks : List BookMove). get_or ks i no_move) h
          ∙ get_or-take b.count b.moves i no_move inside,
    )

-- the move in normal form, for a book of any number of latches that it speaks of
abbrev InNormalForm : LatchSet → ℕ → BookMove → NormalMove → Type 0
InNormalForm start number m x =
    (n : ℕ) → m.latch < n → Below n m.when.named → move_of x ≡ normal_move (setting_of n start) number (rule_of m)

module _ (b : Book) (start : LatchSet) (i : ℕ) (moves : List NormalMove) (so_far : Brought b start i moves) where
  module _ (inside : i < b.count) where
    inside_places : i < length b.moves
    inside_places = omega (arith, b.room, b.move_places)

    -- the move at place i of the book, behind those before it
    one_more : map rule_of (take i b.moves) ++ (rule_of (move_at b.moves i) ∷ []) ≡ map rule_of (take (i + 1) b.moves)
    one_more = sym (map_more rule_of b.moves i no_move inside_places)

    as_many : length (map rule_of (take i b.moves)) ≡ i
    as_many = length-map (take i b.moves) rule_of ∙ length-take-le i b.moves (omega (arith, inside_places))

    one_dropped : dropped? (rule_of (move_at b.moves i)) ≡ true → Brought b start (i + 1) moves
    one_dropped d = record {
      fewer = omega (arith, so_far.fewer);
      same = so_far.same
          ∙ sym (push_dropped (setting_of b.latches start) (map rule_of (take i b.moves)) (rule_of (move_at b.moves i)) d)
          ∙ ap (normal_moves (setting_of b.latches start) 0) one_more;
    }

    one_kept :
        (x : NormalMove) → dropped? (rule_of (move_at b.moves i)) ≡ false →
        move_of x ≡ normal_move (setting_of b.latches start) i (rule_of (move_at b.moves i)) → Brought b start (i + 1) (moves ++ (x ∷ []))
    one_kept x d e = record {
      fewer = omega (arith, so_far.fewer, length_push moves x);
      same = map_push move_of moves x
          ∙ ap (λ (ms : List Move). ms ++ (move_of x ∷ [])) so_far.same
          ∙ ap (λ (m : Move). first_moves b start i ++ (m ∷ [])) e
          ∙ sym (push_kept (setting_of b.latches start) (map rule_of (take i b.moves)) (rule_of (move_at b.moves i)) i as_many d)
          ∙ ap (normal_moves (setting_of b.latches start) 0) one_more;
    }

  -- the next move, as it is read, is dropped or kept
  module _ (m : BookMove) (read : Read b i m) (moves' : List NormalMove) where
    at_place : (own : Bool) → dropped? (rule_of m) ≡ own → dropped? (rule_of (move_at b.moves i)) ≡ own
    at_place own d = ap (λ (x : BookMove). dropped? (rule_of x)) (sym read.1) ∙ d

    pub turn_dropped : moves' ≡ moves → dropped? (rule_of m) ≡ true → Brought b start (i + 1) moves'
    turn_dropped e d = subst (Brought b start (i + 1)) (sym e) (one_dropped read.0 (at_place true d))

    pub turn_kept :
        (number : ℕ) (x : NormalMove) → moves' ≡ moves ++ (x ∷ []) → number ≡ i → dropped? (rule_of m) ≡ false →
        InNormalForm start number m x → Brought b start (i + 1) moves'
    turn_kept number x e numbered d h = subst (Brought b start (i + 1)) (sym e) (one_kept read.0 x (at_place false d) normal)
      where
        normal : move_of x ≡ normal_move (setting_of b.latches start) i (rule_of (move_at b.moves i))
        normal =
            subst (λ (y : BookMove). InNormalForm start number y x) read.1 h b.latches (b.own i read.0) (b.asks i read.0)
            ∙ ap (λ (j : ℕ). normal_move (setting_of b.latches start) j (rule_of (move_at b.moves i))) numbered

  -- behind the last, all moves of the book are brought to normal form
  pub all_brought : (ms : List BookMove) → ms ≡ take b.count b.moves → length ms ≤ i → i ≤ length ms → Brought b start b.count moves
  all_brought ms e l h =
      let end : i ≡ b.count = omega (arith, book_count b, ap (λ (ks : List BookMove). length ks) e) in
      subst (λ (k : ℕ). Brought b start k moves) end so_far

-- all moves, and a want that is brought to normal form, are the task, which is well-formed
module _
    (b : Book) (start : LatchSet) (w v : PartialSetting) (moves : List NormalMove) (all : Brought b start b.count moves)
    (below : Below b.latches w.named) (each : (u : ℕ) → asks_of v u ≡ exchanged_ask (asks_of w u) (has start u)) where
  abbrev brought : Task
  brought = record { width = b.latches; moves = map move_of moves; want = asks_of v }

  wanted : asks_of v ≡ (λ (u : ℕ). exchanged_ask (asks_of w u) (at (setting_of b.latches start) u))
  wanted = fun_ext (λ u. each u ∙ exchanged_at b.latches start w below u)

  pub brought_task : brought ≡ task (rules_of b) (setting_of b.latches start) (asks_of w)
  brought_task = λ j. record { width = b.latches; moves = all.same j; want = wanted j }

  pub brought_well : WellFormed brought
  brought_well =
      subst WellFormed (sym brought_task)
      (task_well_formed (rules_of b) (book_within b) (setting_of b.latches start) (asks_of w) (want_within b w below))

-- the move at a place is one of the list
place_in : {X Y : Type 0} (f : X → Y) (d : X) (xs : List X) (k : ℕ) → k < length xs → In (map f xs) (f (get_or xs k d))
place_in f d [] k l = absurd (omega arith)
place_in f d (x ∷ xs) zero l = inl refl
place_in f d (x ∷ xs) (suc k) l = inr (place_in f d xs k (omega arith))

-- an ask against a position names the latch, at the opposite
against_named : (x y t : Bool) → ask_from (cond x (some y) none) ≡ ask_against t → (x ≡ true) × (y ≡ not t)
against_named true true true e = let z : ◌≡◌ {A = ℕ} 0 1 = cc in absurd (omega arith)
against_named true true false e = (refl, refl)
against_named true false true e = (refl, refl)
against_named true false false e = let z : ◌≡◌ {A = ℕ} 0 1 = cc in absurd (omega arith)
against_named false y true e = let z : ◌≡◌ {A = ℕ} 0 1 = cc in absurd (omega arith)
against_named false y false e = let z : ◌≡◌ {A = ℕ} 0 1 = cc in absurd (omega arith)

-- what a well-formed task says of the move at each place, and of the want
module _
    (width : ℕ) (moves : List NormalMove) (want : PartialSetting)
    (well : WellFormed (record { width = width; moves = map move_of moves; want = asks_of want })) where
  stands_in : (k : ℕ) → k < length moves → In (map move_of moves) (move_of (places.move_at moves k))
  stands_in k l = place_in move_of places.no_move moves k l

  pub place_own : (k : ℕ) → k < length moves → (places.move_at moves k).latch < width
  place_own k l = well.latch_within _ (stands_in k l)

  pub place_within : (k : ℕ) → k < length moves → Below width (places.move_at moves k).asks.named
  place_within k l j h = well.asks_within _ (stands_in k l) j (named_asked (places.move_at moves k).asks j h)

  pub place_asks_own :
      (k : ℕ) → k < length moves →
      (has (places.move_at moves k).asks.named (places.move_at moves k).latch ≡ true)
      × (has (places.move_at moves k).asks.ones (places.move_at moves k).latch ≡ not (places.move_at moves k).to)
  place_asks_own k l = against_named _ _ (places.move_at moves k).to (well.asks_own _ (stands_in k l))

  pub place_wanted : Below width want.named
  place_wanted j h = well.want_within j (named_asked want j h)
