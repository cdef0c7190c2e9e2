-- The values of the options: dates, limits, names.
use Rattle.std.specs.Prelude.{ℕ, Bool, true, false, not, List, [], ◌∷◌, length, Option, Some, None, nat_le, ◌&&◌, ◌||◌, ◌==◌, if◌then◌else◌}
use Rattle.std.specs.Char.{is_ascii_digit}
use Rattle.std.specs.List.{before_first, after_first, list_all, list_any}
use Rattle.std.specs.Str.{bytes_eq}
use Rattle.std.specs.Str.Parse.{digits_value}
use Rattle.tx_files.specs.Names.{is_name}
use Rattle.tx_machine.specs.declared.types.Date.{Date}

-- a number of a date has one to four decimal digits
abbrev pub is_number : List ℕ → Bool
is_number text = nat_le 1 (length text) && nat_le (length text) 4 && list_all is_ascii_digit text

abbrev pub number : List ℕ → Option ℕ
number text = if is_number text then Some (digits_value 10 text) else None

abbrev pub is_between : ℕ → ℕ → ℕ → Bool
is_between least most n = nat_le least n && nat_le n most

-- a year of at most four digits, a month and a day, and the minutes since midnight
abbrev pub is_date : Date → Bool
is_date date = is_between 1 9999 date.year && is_between 1 12 date.month && is_between 1 31 date.day && is_between 0 1439 date.minutes

abbrev pub checked : Date → Option Date
checked date = if is_date date then Some date else None

-- four numbers are a date if they are in these ranges
abbrev pub date_of : Option ℕ → Option ℕ → Option ℕ → Option ℕ → Option Date
date_of (Some year) (Some month) (Some day) (Some minutes) = checked (record { year = year; month = month; day = day; minutes = minutes })
date_of _ _ _ _ = None

abbrev pub is_hyphen : ℕ → Bool
is_hyphen code = code == 45

abbrev pub before_hyphen : List ℕ → List ℕ
before_hyphen text = before_first is_hyphen text

-- what follows the first hyphen, nothing where there is none
abbrev pub after_hyphen : List ℕ → List ℕ
after_hyphen text = after_first is_hyphen text

-- a date is written Y-M-D-T
abbrev pub date_meant : List ℕ → Option Date
date_meant text =
    let month_on = after_hyphen text in
    let day_on = after_hyphen month_on in
    date_of (number (before_hyphen text)) (number (before_hyphen month_on)) (number (before_hyphen day_on)) (number (after_hyphen day_on))

-- a text as the name of a file, if it is one
abbrev pub named : List ℕ → Option (List ℕ)
named text = if is_name text then Some text else None

-- the first character is a zero
abbrev pub begins_with_zero : List ℕ → Bool
begins_with_zero [] = false
begins_with_zero (code ∷ _) = code == 48

-- decimal digits, no more than any limit has, and no zero in front of others
abbrev pub is_plain : List ℕ → Bool
is_plain text = nat_le 1 (length text) && nat_le (length text) 10 && list_all is_ascii_digit text && (length text == 1 || not (begins_with_zero text))

abbrev pub plain_number : List ℕ → Option ℕ
plain_number text = if is_plain text then Some (digits_value 10 text) else None

abbrev pub seed_of : Option ℕ → Option ℕ
seed_of None = None
seed_of (Some n) = if nat_le n 4294967295 then Some n else None

-- a seed is a number of 32 bits
abbrev pub seed_meant : List ℕ → Option ℕ
seed_meant text = seed_of (plain_number text)

abbrev pub at_most : ℕ → Option ℕ → Option ℕ
at_most most None = None
at_most most (Some n) = if is_between 1 most n then Some n else None

-- a limit is a number from 1 on
abbrev pub limit_meant : ℕ → List ℕ → Option ℕ
limit_meant most text = at_most most (plain_number text)

-- the first text is equal to one behind it
abbrev pub is_first_repeated : List (List ℕ) → Bool
is_first_repeated [] = false
is_first_repeated (text ∷ texts) = list_any (bytes_eq text) texts

-- no text is equal to one behind it
abbrev pub are_distinct : List (List ℕ) → Bool
are_distinct [] = true
are_distinct (text ∷ texts) = not (is_first_repeated (text ∷ texts)) && are_distinct texts

-- texts as the names of files, if each is one and they are distinct
abbrev pub all_named : List (List ℕ) → Option (List (List ℕ))
all_named texts = if are_distinct texts && list_all is_name texts then Some texts else None
