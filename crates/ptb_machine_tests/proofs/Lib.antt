-- This file names the files of lemmas.
mod SamePlaces
