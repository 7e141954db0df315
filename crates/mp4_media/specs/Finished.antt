-- A movie that was written is a file.
use Rattle.std.specs.Prelude.{◌≡◌, [], length}
use Rattle.mp4_mux.specs.Writing.{WriterState, file_type_of, movie_of, whole_of}
use Rattle.mp4_media.specs.FileGrammar.{IsFile}

-- If the buffer handed in was empty, the bytes of a writer are a file from the first to the last, with the file type
-- and the movie that were written, without fragments.
abbrev pub Opens : WriterState → Type 0
Opens st = st.front ≡ []
    → IsFile (length (whole_of st)) (record { bytes = whole_of st; position = 0 })
    (record {
      ftyp = file_type_of st.config;
      moov = movie_of st;
      moofs = [];
      moof_places = [];
      emsgs = [];
      size = length (whole_of st);
    })
