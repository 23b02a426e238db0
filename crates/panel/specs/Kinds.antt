-- What the three kinds of panel mean, and how a relay panel counts pulses. Assumes nothing.
--   register_setting p   the setting of a register panel
--   coil_at b            the coil that puts a latch at position b
--   up? c                coil c puts its latch at position 1
--   resting b            the coils of a latch at position b, with no pulse yet
--   pulse_limit          where a count of pulses stops
--   pulsed cs c          the coils after a pulse of coil c
--   coils_at css i       the coils of latch i
--   relay_setting p      the setting of a relay panel
--   relay_counts p       the pulse counts of its latches, latch 0 first
--   counted ns i         the counts after one more pulse at latch i
--   count_at ns i        the count of latch i
--   CoilsOf p i o        o has the coils of latch i, if there is one: its position and its count
--   flip_setting of f    the setting of a flip panel over a panel whose setting `of` tells
use Rattle.std.specs.Prelude.{◌≡◌, ℕ, ◌+◌, min, Bool, true, false, cond, List, length, Some, None, Option, MatchOption, nat_lt, slice_index, slice_index_or, slice_set}
use Rattle.words.specs.Sets.{has}
use Rattle.panel.specs.Settings.{row, digit, looked, flipped}
use Rattle.panel.specs.declared.flip.Flip.{Flip}
use Rattle.panel.specs.declared.register.Register.{Register}
use Rattle.panel.specs.declared.relay.Coil.{Coil}
use Rattle.panel.specs.declared.relay.Coil.TheVariants.{Reset, Set}
use Rattle.panel.specs.declared.relay.Coils.{Coils}
use Rattle.panel.specs.declared.relay.Relay.{Relay}

-- the setting of a register panel
abbrev pub register_setting : Register → List Bool
register_setting p = row p.width.count (has p.raised)

-- the coil that puts a latch at position b
abbrev pub coil_at : Bool → Coil
coil_at true = Set
coil_at false = Reset

-- the coil puts its latch at position 1
abbrev pub up? : Coil → Bool
up? Reset = false
up? Set = true

-- the coils of a latch at position b, with no pulse yet
abbrev pub resting : Bool → Coils
resting b = record { last = coil_at b; pulses = 0 }

-- where a count of pulses stops
abbrev pub pulse_limit : ℕ
pulse_limit = 65535

-- the coils after a pulse of coil c
abbrev pub pulsed : Coils → Coil → Coils
pulsed cs c = record { last = c; pulses = min (cs.pulses + 1) pulse_limit }

-- the coils of latch i
abbrev pub coils_at : List Coils → ℕ → Coils
coils_at css i = slice_index_or css i (resting false)

-- the setting of a relay panel
abbrev pub relay_setting : Relay → List Bool
relay_setting p = row p.width.count (λ i. up? (coils_at p.coils i).last)

-- the pulse counts of its latches
abbrev pub relay_counts : Relay → List ℕ
relay_counts p = row p.width.count (λ i. (coils_at p.coils i).pulses)

-- the counts after one more pulse at latch i: the others stay, and all do where there is no latch i
abbrev pub counted : List ℕ → ℕ → List ℕ
counted ns i = slice_set ns i (min (slice_index ns i + 1) pulse_limit)

-- the count of latch i: none where there is no latch i
abbrev pub count_at : List ℕ → ℕ → Option ℕ
count_at ns i = cond (nat_lt i (length ns)) (Some (slice_index ns i)) None

-- o has the coils of latch i, which tell its position and its count; it has none where there is no latch i
abbrev pub CoilsOf : Relay → ℕ → Option Coils → Type 0
CoilsOf p i o =
    MatchOption o
    ((None ≡ looked (relay_setting p) i) × (None ≡ count_at (relay_counts p) i))
    (λ cs. (Some (digit (up? cs.last)) ≡ looked (relay_setting p) i) × (Some cs.pulses ≡ count_at (relay_counts p) i))

-- the setting of a flip panel: that of the panel below, which `of` tells, through the mask
abbrev pub flip_setting : {P : Type 0} → (P → List Bool) → Flip P → List Bool
flip_setting of f = flipped f.mask (of f.inner)
