-- The text of an event tells the event.
use Rattle.std.proofs.Common.{◌≡◌, ℕ, ◌<◌, ◌^◌, ◌==◌, List, [], ◌∷◌, ◌++◌, drop, codes, decimal, Option, Some, None, refl, sym, ap, ap₂, ◌∙◌}
use Rattle.std.specs.Prelude.{if◌then◌else◌}
use Rattle.std.proofs.lemmas.List.{append_cancel_left}
use Rattle.osb_tree.specs.declared.numbers.Key.{Key}
use Rattle.osb_tree.specs.declared.numbers.TaskNo.{TaskNo}
use Rattle.osb_job.specs.declared.entries.Word.{Word}
use Rattle.osb_job.specs.declared.entries.Word.TheVariants as words
use Rattle.osb_job.specs.declared.entries.Event.{Event}
use Rattle.osb_job.specs.declared.entries.Event.TheVariants as events
use Rattle.osb_log.specs.Texts.{word_text, event_text}
use Rattle.osb_log.specs.Fits.{EventFits}
use Rattle.osb_log.proofs.Numbers.{number, behind, number_first, parts_told}

-- ---- a text read by the words that it may begin with

-- what follows a word
abbrev after : List ℕ → List ℕ → Option (List ℕ)
after [] text = Some text
after (c ∷ word) [] = None
after (c ∷ word) (d ∷ text) = if c == d then after word text else None

abbrev read_rest : {A : Type 0} → Option (List ℕ) → (List ℕ → A) → A → A
read_rest (Some text) read other = read text
read_rest None read other = other

-- what the reader of the first word that stands there gives
abbrev read_by : {A : Type 0} → List (List ℕ × (List ℕ → A)) → A → List ℕ → A
read_by [] other text = other
read_by (reader ∷ readers) other text = read_rest (after reader.0 text) reader.1 (read_by readers other text)

-- ---- words and events

abbrev word_in : List ℕ → Word
word_in text = read_by ((codes "tree", λ rest. words.Tree) ∷ (codes "fault", λ rest. words.Fault) ∷ (codes "blocked", λ rest. words.Blocked) ∷ []) words.NoMemory text

word_told : (word : Word) (x : List ℕ) → word_in (word_text word ++ x) ≡ word
word_told words.Tree x = refl
word_told words.Fault x = refl
word_told words.Blocked x = refl
word_told words.NoMemory x = refl

abbrev key_of : ℕ → Key
key_of n = record { 0 = n }

abbrev task_of : ℕ → TaskNo
task_of n = record { 0 = n }

-- the number and the word behind a first number
abbrev second_number : List ℕ → ℕ
second_number text = number (drop 1 (behind text))

abbrev second_word : List ℕ → Word
second_word text = word_in (drop 1 (behind text))

-- the answer to what was asked for a key
abbrev reserved : ℕ → List ℕ → Event
reserved key text =
    read_by (
    (codes " room ", λ rest. events.Room (key_of key) (number rest))
    ∷ (codes " already", λ rest. events.Already (key_of key))
    ∷ (codes " too large", λ rest. events.TooLarge (key_of key))
    ∷ []
    )
    (events.Full (key_of key)) text

abbrev event_in : List ℕ → Event
event_in text =
    read_by (
    (codes "claim ", λ rest. events.Claim (task_of (number rest)))
    ∷ (codes "over", λ rest. events.Over)
    ∷ (codes "fetch ", λ rest. events.Fetch (task_of (number rest)) (second_word rest))
    ∷ (codes "look hit ", λ rest. events.Hit (key_of (number rest)))
    ∷ (codes "look miss", λ rest. events.Miss)
    ∷ (codes "read ", λ rest. events.Read (key_of (number rest)) (second_number rest))
    ∷ (codes "unpin ", λ rest. events.Unpin (key_of (number rest)))
    ∷ (codes "reserve ", λ rest. reserved (number rest) (behind rest))
    ∷ (codes "put ", λ rest. events.Put (key_of (number rest)) (second_number rest))
    ∷ (codes "commit ", λ rest. events.Commit (key_of (number rest)))
    ∷ (codes "drop ", λ rest. events.Drop (key_of (number rest)))
    ∷ (codes "done ", λ rest. events.Done (task_of (number rest)) (second_word rest))
    ∷ []
    )
    events.Over text

number_and_word : (n : ℕ) (word : Word) (x : List ℕ) → n < 2 ^ 64
    → (number ((decimal n ++ 32 ∷ word_text word) ++ 10 ∷ x) ≡ n) × (second_word ((decimal n ++ 32 ∷ word_text word) ++ 10 ∷ x) ≡ word)
number_and_word n word x small =
    let told = parts_told n 32 (word_text word) (10 ∷ x) small refl in
    (told.0, ap (λ (text : List ℕ). word_in (drop 1 text)) told.1 ∙ word_told word (10 ∷ x))

number_and_number : (n m : ℕ) (x : List ℕ) → n < 2 ^ 64 → m < 2 ^ 64
    → (number ((decimal n ++ 32 ∷ decimal m) ++ 10 ∷ x) ≡ n) × (second_number ((decimal n ++ 32 ∷ decimal m) ++ 10 ∷ x) ≡ m)
number_and_number n m x small small_m =
    let told = parts_told n 32 (decimal m) (10 ∷ x) small refl in
    (told.0, ap (λ (text : List ℕ). number (drop 1 text)) told.1 ∙ number_first m 10 x small_m refl)

event_told : (event : Event) (x : List ℕ) → EventFits event → event_in (event_text event ++ 10 ∷ x) ≡ event
event_told (events.Claim task) x fits = ap (λ (n : ℕ). events.Claim (task_of n)) (number_first task.0 10 x fits refl)
event_told events.Over x fits = refl
event_told (events.Fetch dep word) x fits =
    let told = number_and_word dep.0 word x fits in ap₂ (λ (n : ℕ) (w : Word). events.Fetch (task_of n) w) told.0 told.1
event_told (events.Hit key) x fits = ap (λ (n : ℕ). events.Hit (key_of n)) (number_first key.0 10 x fits refl)
event_told events.Miss x fits = refl
event_told (events.Read key place) x fits =
    let told = number_and_number key.0 place x fits.0 fits.1 in ap₂ (λ (n m : ℕ). events.Read (key_of n) m) told.0 told.1
event_told (events.Unpin key) x fits = ap (λ (n : ℕ). events.Unpin (key_of n)) (number_first key.0 10 x fits refl)
event_told (events.Room key evicted) x fits =
    let told = parts_told key.0 32 (codes "room " ++ decimal evicted) (10 ∷ x) fits.0 refl in
    ap₂ reserved told.0 told.1 ∙ ap (λ (n : ℕ). events.Room key n) (number_first evicted 10 x fits.1 refl)
event_told (events.Already key) x fits =
    let told = parts_told key.0 32 (codes "already") (10 ∷ x) fits refl in ap₂ reserved told.0 told.1
event_told (events.TooLarge key) x fits =
    let told = parts_told key.0 32 (codes "too large") (10 ∷ x) fits refl in ap₂ reserved told.0 told.1
event_told (events.Full key) x fits =
    let told = parts_told key.0 32 (codes "full") (10 ∷ x) fits refl in ap₂ reserved told.0 told.1
event_told (events.Put key place) x fits =
    let told = number_and_number key.0 place x fits.0 fits.1 in ap₂ (λ (n m : ℕ). events.Put (key_of n) m) told.0 told.1
event_told (events.Commit key) x fits = ap (λ (n : ℕ). events.Commit (key_of n)) (number_first key.0 10 x fits refl)
event_told (events.Drop key) x fits = ap (λ (n : ℕ). events.Drop (key_of n)) (number_first key.0 10 x fits refl)
event_told (events.Done task word) x fits =
    let told = number_and_word task.0 word x fits in ap₂ (λ (n : ℕ) (w : Word). events.Done (task_of n) w) told.0 told.1

pub events_tell : (event event' : Event) (x y : List ℕ) → EventFits event → EventFits event' → event_text event ++ 10 ∷ x ≡ event_text event' ++ 10 ∷ y → (event ≡ event') × (x ≡ y)
events_tell event event' x y fits fits' same =
    let told : event ≡ event' = sym (event_told event x fits) ∙ ap event_in same ∙ event_told event' y fits' in
    let rest : event_text event ++ 10 ∷ x ≡ event_text event ++ 10 ∷ y = same ∙ ap (λ (other : Event). event_text other ++ 10 ∷ y) (sym told) in
    (told, ap (drop 1) (append_cancel_left (event_text event) (10 ∷ x) (10 ∷ y) rest))
