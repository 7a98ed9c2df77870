-- The fixed texts.
use Rattle.std.specs.Prelude.{ℕ, ◌++◌, List, codes}

abbrev pub help_text : List ℕ
help_text =
    codes "uefihost: runs RISC-V code and prints what it came to\n"
    ++ codes "\n"
    ++ codes "uefihost run SCRIPT        run the steps of a script\n"
    ++ codes "uefihost build FILE        assemble the text of FILE and write the image\n"
    ++ codes "uefihost image FILE        print what the image FILE holds, or why it is refused\n"
    ++ codes "uefihost list FILE         print the instructions of the image FILE\n"
    ++ codes "uefihost flat FILE BOUND   put FILE at 0x40000000 and make at most BOUND steps\n"
    ++ codes "uefihost --help            print this text\n"
    ++ codes "uefihost --version         print the version\n"
    ++ codes "\n"
    ++ codes "SCRIPT is a TOML document of at most 1048576 bytes that names images and steps.\n"
    ++ codes "FILE is at most 4194304 bytes: of RV64IMC code for flat, of assembly text for build, of a\n"
    ++ codes "PE32+ image for image and list. BOUND is a number from 1 to 50000000.\n"
    ++ codes "The line of flat is: flat CAUSE PC STEPS A0, with PC and A0 in hexadecimal. CAUSE is ebreak,\n"
    ++ codes "ecall, illegal, load, store, fetch or bound.\n"
    ++ codes "Status: 0 ebreak or end, 1 another cause, a halt or a refused image, 2 usage, 3 the script is refused,\n"
    ++ codes "4 a file can't be read, 5 the output fails, 6 no memory, 7 a file is too long, 8 a text isn't assembled.\n"

abbrev pub version_text : List ℕ
version_text = codes "uefihost 0.1.0\n"
