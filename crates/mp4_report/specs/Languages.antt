-- The languages of media headers (ISO/IEC 14496-12, 8.4.2, and QuickTime File Format, "Language Code Values").
use Rattle.std.specs.Prelude.{ℕ, ◌+◌, ◌-◌, ◌*◌, ◌==◌, ◌&&◌, not, nat_le, nat_lt, Bool, if◌then◌else◌}
use Rattle.std.specs.Prelude.{List, [], ◌∷◌, ◌++◌, length, slice_get, slice_index, codes, Option, Some, None}
use Rattle.mp4_report.specs.declared.language.LanguageForm.{LanguageForm}
use Rattle.mp4_report.specs.declared.language.LanguageForm.TheVariants.{Macintosh, Unset, Letters, Unknown}

-- a character is a letter, in lower case
abbrev pub is_letter : ℕ → Bool
is_letter character = nat_le 97 character && nat_le character 122

-- How three characters of five bits each, of which 0x60 is 0, say a language: by a number of Macintosh after a 0, not
-- at all where all bits are set, and else by its letters.
unfoldable pub language_form : List ℕ → LanguageForm
language_form characters =
    let first = slice_index characters 0 in
    let second = slice_index characters 1 in
    let third = slice_index characters 2 in
    if not (length characters == 3) then Unknown else
    if first == 0x60 then Macintosh ((second - 0x60) * 32 + (third - 0x60)) else
    if (first == 0x7f) && (second == 0x7f) && (third == 0x7f) then Unset else
    if is_letter first && is_letter second && is_letter third then Letters else Unknown

-- the languages of Macintosh of the codes from 0 on, ten a line: their ISO 639-2/T codes, with a space after each
unfoldable pub first_languages : List ℕ
first_languages =
    codes "eng fra deu ita nld swe spa dan por nor "
    ++ codes "heb jpn ara fin ell isl mlt tur hrv zho "
    ++ codes "urd hin tha kor lit pol hun est lav smi "
    ++ codes "fao fas rus zho nld gle sqi ron ces slk "
    ++ codes "slv yid srp mkd bul ukr bel uzb kaz aze "
    ++ codes "aze hye kat ron kir tgk tuk mon mon pus "
    ++ codes "kur kas snd bod nep san mar ben asm guj "
    ++ codes "pan ori mal kan tam tel sin mya khm lao "
    ++ codes "vie ind tgl msa msa amh tir orm som swa "
    ++ codes "kin run nya mlg epo "

-- those of the codes from 128 on
unfoldable pub later_languages : List ℕ
later_languages =
    codes "cym eus cat lat que grn aym tat uig dzo "
    ++ codes "jav sun glg afr bre iku gla glv gle ton "
    ++ codes "ell kal aze "

-- the words of such a text
abbrev pub words : List ℕ → List (List ℕ)
words (a ∷ b ∷ c ∷ space ∷ others) = (a ∷ b ∷ c ∷ []) ∷ words others
words others = []

-- the language of a code of Macintosh: from 95 up to 127, and past 150, there is none
unfoldable pub macintosh_language : ℕ → Option (List ℕ)
macintosh_language code =
    if nat_lt code 128 then slice_get (words first_languages) code
    else slice_get (words later_languages) (code - 128)

-- the ISO 639-2/T code of the language that characters say in a form: of no language it is `und`
abbrev pub language_in : LanguageForm → List ℕ → Option (List ℕ)
language_in (Macintosh code) characters = macintosh_language code
language_in Unset characters = Some (codes "und")
language_in Letters characters = Some characters
language_in Unknown characters = None

-- the language that characters say, if it is known
abbrev pub language_said : List ℕ → Option (List ℕ)
language_said characters = language_in (language_form characters) characters
