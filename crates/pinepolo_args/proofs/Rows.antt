-- What the getters of clap read, by the rows of the matches.
use Rattle.std.proofs.Common.{[], ◌∷◌, ◌≡◌, ℕ, Bool, true, false, List, Option, Some, None, Ok, Err, Result, IfOk, option_map, subst, refl, sym, ◌∙◌, ap, unwrap_or, codes}
use Rattle.std.specs.Bool.{Decides}
use Rattle.std.specs.Str.{bytes_eq}
use Rattle.std.specs.Str.Parse.{ExplainsUnsignedError, HasUnsignedDigitsIfOk, ParsesBool, ParsesUnsigned, true_text, digits_value, without_leading_plus}
use Rattle.std.proofs.lemmas.Slice.Eq.{bytes_eq-Decides}
use Rattle.std.specs.declared.num.ParseIntError.{ParseIntError}
use Rattle.std.specs.Option.{option_map_or}
use Rattle.clap.specs.Words.{Text, ReadsOne, StepsValues, TriesOne}
use Rattle.clap.specs.declared.parser.matches.Found.{Found}
use Rattle.clap.specs.Matches.{one_text}
use Rattle.clap.specs.Words.{rows_of}
use Rattle.clap.proofs.WalkLemmas.{one_text-rows}
use Rattle.pinepolo_args.specs.Meanings.{flag, number}

false_unless : (b : Bool) (P : Type 0) → Decides b P → ¬ P → b ≡ false
false_unless true P d never = absurd (never (d.0 refl))
false_unless false P d never = refl

-- a flag is read as the text `true`
read_flag : (E : Type 0) (given : Option Text) (value : Option Bool)
    → (given ≡ None → value ≡ None)
    → ((t : Text) → given ≡ Some t → ReadsOne (ParsesBool {E = E}) t value)
    → unwrap_or value false ≡ option_map_or (λ text. bytes_eq text (codes "true")) given false
read_flag E None value none some = ap (λ (v : Option Bool). unwrap_or v false) (none refl)
read_flag E (Some t) None none some = sym (false_unless (bytes_eq t true_text) (t ≡ true_text) (bytes_eq-Decides t true_text) (some t refl).1.0)
read_flag E (Some t) (Some true) none some = sym (ap (λ (x : Text). bytes_eq x true_text) (some t refl))
read_flag E (Some t) (Some false) none some = sym (ap (λ (x : Text). bytes_eq x true_text) (some t refl))

pub flag_is : (E : Type 0) (f : Found) (id : Text) (value : Option Bool)
    → (one_text f id ≡ None → value ≡ None)
    → ((t : Text) → one_text f id ≡ Some t → ReadsOne (ParsesBool {E = E}) t value)
    → unwrap_or value false ≡ flag (rows_of f) id
flag_is E f id value none some = read_flag E (one_text f id) value none some ∙ ap (λ (o : Option Text). option_map_or (λ text. bytes_eq text (codes "true")) o false) (one_text-rows f id)

-- a number is read from its digits
read_number : {E : Type 0} (gives : List ℕ → Result ℕ E → Type 0)
    → ((t : Text) (n : ℕ) → gives t (Ok n) → n ≡ digits_value 10 (without_leading_plus t))
    → (given : Option Text) (r : Result (Option ℕ) E)
    → (given ≡ None → r ≡ Ok None)
    → ((t : Text) → given ≡ Some t → TriesOne gives t r)
    → IfOk r (λ n. n ≡ option_map (λ text. digits_value 10 (without_leading_plus text)) given)
read_number gives is None r none some = subst (λ q. IfOk q (λ n. n ≡ None)) (sym (none refl)) refl
read_number gives is (Some t) (Ok (Some n)) none some = ap Some (is t n (some t refl))
read_number gives is (Some t) (Ok None) none some = absurd (some t refl)
read_number gives is (Some t) (Err e) none some = tt

-- what an unsigned type of k bits reads
abbrev pub Reads : (k : ℕ) → List ℕ → Result ℕ ParseIntError → Type 0
Reads k text r = ParsesUnsigned k 10 text r × ExplainsUnsignedError 10 text r × HasUnsignedDigitsIfOk text r

pub number_is : (k : ℕ) (f : Found) (id : Text) (r : Result (Option ℕ) ParseIntError)
    → (one_text f id ≡ None → r ≡ Ok None)
    → ((t : Text) → one_text f id ≡ Some t → TriesOne (Reads k) t r)
    → (n : Option ℕ) → r ≡ Ok n → n ≡ number (rows_of f) id
number_is k f id r none some n is =
    subst (λ (q : Result (Option ℕ) ParseIntError). IfOk q (λ m. m ≡ number (rows_of f) id)) is
    (subst (λ (o : Option Text). IfOk r (λ m. m ≡ option_map (λ text. digits_value 10 (without_leading_plus text)) o)) (one_text-rows f id)
    (read_number (Reads k) (λ t m h. h.0.1) (one_text f id) r none some))

-- ---- the texts that are left to an iterator of values

pub none_given : {A : Type 0} (left : A → List Text) (r : Option A) (all : Option (List Text)) → option_map left r ≡ all → r ≡ None → unwrap_or all [] ≡ []
none_given {A} left r all given is = ap (λ (o : Option (List Text)). unwrap_or o []) (sym given) ∙ ap (λ (o : Option A). unwrap_or (option_map left o) []) is

pub some_given : {A : Type 0} (left : A → List Text) (r : Option A) (all : Option (List Text)) (v : A) → option_map left r ≡ all → r ≡ Some v → unwrap_or all [] ≡ left v
some_given {A} left r all v given is = ap (λ (o : Option (List Text)). unwrap_or o []) (sym given) ∙ ap (λ (o : Option A). unwrap_or (option_map left o) []) is

pub at_end : {T E : Type 0} (gives : List ℕ → Result T E → Type 0) (before after : List Text) → StepsValues gives before after None → before ≡ []
at_end gives [] after h = refl
at_end gives (t ∷ rest) after h = absurd h

pub at_turn : {T E : Type 0} (gives : List ℕ → Result T E → Type 0) (before after : List Text) (x : Result T E) → StepsValues gives before after (Some x)
    → (t : Text) × (before ≡ t ∷ after) × gives t x
at_turn gives [] after x h = absurd h
at_turn gives (t ∷ rest) after x h = (t, ap (λ (r : List Text). t ∷ r) (sym h.1), h.0)
