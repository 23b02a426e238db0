-- A book is told by its contents, and an errand by its own.
use Rattle.std.proofs.Common.{◌≡◌, ℕ, ◌<◌, ◌≤◌, Bool, false, List, [], map, length, get_or, sym, ap, ◌∙◌, subst, inl, inr, arith}
use Rattle.std.proofs.lemmas.List.{ext_get_or, length-map}
use Rattle.std.proofs.lemmas.Bool.{cases_lt, cases_Bool}
use Rattle.words.specs.declared.LatchSet.{LatchSet}
use Rattle.words.specs.Sets.{has, Below, most_latches}
use Rattle.words.proofs.Members.{set_ext}
use Rattle.book.specs.declared.book.Book.{Book}
use Rattle.book.specs.declared.errand.Errand.{Errand}
use Rattle.book.specs.declared.moves.Move.{Move}
use Rattle.book.specs.declared.partial.PartialSetting.{PartialSetting}
use Rattle.book.specs.Places.{name_of, name_at, move_at, no_move}
use Rattle.book.proofs.Sameness.{names_same, partial_tell, move_same, book_same, errand_same}
use Rattle.format.specs.Contents.{Rule, Contents, ErrandContents}
use Rattle.format.specs.Said.{rule_of, positions_of, contents_of, errand_contents_of}
use Rattle.format.proofs.BookSaid.{names_length, rules_length, name_is, rule_is}
use Rattle.format.proofs.ItemsSaid.{items_tell}
use Rattle.format.proofs.StartSaid.{position_at}

-- latches below fewer are below more
wider : (n m : ℕ) (p : PartialSetting) → n ≤ m → Below n p.named → Below m p.named
wider n m p l h j e = let k = h j e in omega arith

-- a move is told by what it says
rule_tells : (x y : Move) → Below most_latches x.when.named → Below most_latches y.when.named → rule_of x ≡ rule_of y → x ≡ y
rule_tells x y a b e =
    move_same x y (ap (λ (r : Rule). r.latch) e) (ap (λ (r : Rule). r.to) e)
    (partial_tell x.when y.when (items_tell x.when y.when a b (ap (λ (r : Rule). r.when) e)))

module _ (a b : Book) (e : contents_of a ≡ contents_of b) where
  latches : a.latches ≡ b.latches
  latches = sym (names_length a) ∙ ap (λ (p : Contents). length p.names) e ∙ names_length b

  count : a.count ≡ b.count
  count = sym (rules_length a) ∙ ap (λ (p : Contents). length p.rules) e ∙ rules_length b

  name : (k : ℕ) → name_at a.names k ≡ name_at b.names k
  name k =
      elim (cases_lt k a.latches) [
        | inl h ↦ sym (name_is a k h) ∙ ap (λ (p : Contents). get_or p.names k []) e ∙ name_is b k (omega (arith, latches))
        | inr h ↦ a.no_names k h ∙ sym (b.no_names k (omega (arith, latches)))
      ]

  names : a.names ≡ b.names
  names =
      names_same a.names b.names
      (ext_get_or [] (map name_of a.names) (map name_of b.names)
      (length-map a.names name_of ∙ a.name_places ∙ sym b.name_places ∙ sym (length-map b.names name_of)) (λ k l. name k))

  move : (k : ℕ) → move_at a.moves k ≡ move_at b.moves k
  move k =
      elim (cases_lt k a.count) [
        | inl h ↦
            let g : k < b.count = omega (arith, count) in
            rule_tells (move_at a.moves k) (move_at b.moves k)
            (wider a.latches most_latches (move_at a.moves k).when a.few (a.asks k h)) (wider b.latches most_latches (move_at b.moves k).when b.few (b.asks k g))
            (sym (rule_is a k h) ∙ ap (λ (p : Contents). get_or p.rules k (rule_of no_move)) e ∙ rule_is b k g)
        | inr h ↦ a.no_moves k h ∙ sym (b.no_moves k (omega (arith, count)))
      ]

  moves : a.moves ≡ b.moves
  moves = ext_get_or no_move a.moves b.moves (a.move_places ∙ sym b.move_places) (λ k l. move k)

  pub contents_tell : a ≡ b
  contents_tell = book_same a b latches names count moves

-- a set of latches below n is told by the positions of n latches
positions_tell : (n : ℕ) (s t : LatchSet) → Below n s → Below n t → positions_of n s ≡ positions_of n t → s ≡ t
positions_tell n s t a b e = set_ext s t at
  where
    past : (u : LatchSet) (j : ℕ) → Below n u → n ≤ j → has u j ≡ false
    past u j h l = elim (cases_Bool (has u j)) [ inl p ↦ absurd (let k = h j p in omega arith) | inr q ↦ q ]

    at : (j : ℕ) → has s j ≡ has t j
    at j =
        elim (cases_lt j n) [
          | inl l ↦ sym (position_at n s j l) ∙ ap (λ (xs : List Bool). get_or xs j false) e ∙ position_at n t j l
          | inr l ↦ past s j a l ∙ sym (past t j b l)
        ]

-- an errand is told by what it says
pub errand_contents_tell : (a b : Errand) → errand_contents_of a ≡ errand_contents_of b → a ≡ b
errand_contents_tell a b e =
    errand_same a b book (positions_tell b.book.latches a.start b.start (subst (λ (x : Book). Below x.latches a.start) book a.starts) b.starts start)
    (partial_tell a.want b.want
    (items_tell a.want b.want (wider a.book.latches most_latches a.want a.book.few a.wants) (wider b.book.latches most_latches b.want b.book.few b.wants)
    (ap (λ (c : ErrandContents). c.want) e)))
  where
    book : a.book ≡ b.book
    book = contents_tell a.book b.book (ap (λ (c : ErrandContents). c.contents) e)

    start : positions_of b.book.latches a.start ≡ positions_of b.book.latches b.start
    start = ap (λ (x : Book). positions_of x.latches a.start) (sym book) ∙ ap (λ (c : ErrandContents). c.start) e
