-- The operators (PostScript Language Reference, third edition, 8.1 Operator Summary).
-- Own rule: an operator's number is its place, from 0, in the table of all 145 operators of this
-- interpreter, in the order: operands, arithmetic, values and composites, control, input, graphics state,
-- matrices, paths, painting, pages, fonts. All have their numbers, built or not, so a number stays.
use Rattle.std.specs.Prelude.{ℕ, Bool, true, ◌&&◌, nat_lt, List, [], ◌∷◌, codes}
use Rattle.ps_store.specs.declared.oper.StackOp.{StackOp}
use Rattle.ps_store.specs.declared.oper.DataOp.{DataOp}
use Rattle.ps_store.specs.declared.oper.FlowOp.{FlowOp}
use Rattle.ps_store.specs.declared.oper.GfxOp.{GfxOp}
use Rattle.ps_store.specs.declared.oper.PageOp.{PageOp}
use Rattle.ps_store.specs.declared.oper.SpaceOp.{SpaceOp}
use Rattle.ps_store.specs.declared.oper.ImageOp.{ImageOp}
use Rattle.ps_store.specs.declared.oper.FontOp.{FontOp}
use Rattle.ps_store.specs.declared.oper.StackOp.TheVariants as OnStack
use Rattle.ps_store.specs.declared.oper.DataOp.TheVariants as OnData
use Rattle.ps_store.specs.declared.oper.FlowOp.TheVariants as OnFlow
use Rattle.ps_store.specs.declared.oper.GfxOp.TheVariants as OnGfx
use Rattle.ps_store.specs.declared.oper.PageOp.TheVariants as OnPage
use Rattle.ps_store.specs.declared.oper.SpaceOp.TheVariants as OnSpace
use Rattle.ps_store.specs.declared.oper.ImageOp.TheVariants as OnImage
use Rattle.ps_store.specs.declared.oper.FontOp.TheVariants as OnFont
use Rattle.ps_store.specs.declared.oper.Oper.{Oper}
use Rattle.ps_store.specs.declared.oper.Oper.TheVariants.{Stack, Data, Flow, Gfx, Page, Space, Image, Font}

-- the number of an operator on the operands: 0 to 40
abbrev pub stack_number_of : StackOp → ℕ
stack_number_of OnStack.Pop = 0
stack_number_of OnStack.Exch = 1
stack_number_of OnStack.Dup = 2
stack_number_of OnStack.Clear = 3
stack_number_of OnStack.Count = 4
stack_number_of OnStack.Copy = 5
stack_number_of OnStack.Index = 6
stack_number_of OnStack.Roll = 7
stack_number_of OnStack.Mark = 8
stack_number_of OnStack.OpenArray = 9
stack_number_of OnStack.OpenDict = 10
stack_number_of OnStack.Cleartomark = 11
stack_number_of OnStack.Counttomark = 12
stack_number_of OnStack.Add = 13
stack_number_of OnStack.Sub = 14
stack_number_of OnStack.Mul = 15
stack_number_of OnStack.Div = 16
stack_number_of OnStack.Idiv = 17
stack_number_of OnStack.Mod = 18
stack_number_of OnStack.Neg = 19
stack_number_of OnStack.Abs = 20
stack_number_of OnStack.Ceiling = 21
stack_number_of OnStack.Floor = 22
stack_number_of OnStack.Round = 23
stack_number_of OnStack.Truncate = 24
stack_number_of OnStack.Sqrt = 25
stack_number_of OnStack.Sin = 26
stack_number_of OnStack.Cos = 27
stack_number_of OnStack.Cvi = 28
stack_number_of OnStack.Cvr = 29
stack_number_of OnStack.Eq = 30
stack_number_of OnStack.Ne = 31
stack_number_of OnStack.Gt = 32
stack_number_of OnStack.Ge = 33
stack_number_of OnStack.Lt = 34
stack_number_of OnStack.Le = 35
stack_number_of OnStack.And = 36
stack_number_of OnStack.Or = 37
stack_number_of OnStack.Xor = 38
stack_number_of OnStack.Not = 39
stack_number_of OnStack.Bitshift = 40

-- the number of an operator on values and composites, or input: 41 to 69, 82 to 84
abbrev pub data_number_of : DataOp → ℕ
data_number_of OnData.True = 41
data_number_of OnData.False = 42
data_number_of OnData.Null = 43
data_number_of OnData.Array = 44
data_number_of OnData.String = 45
data_number_of OnData.Dict = 46
data_number_of OnData.CloseArray = 47
data_number_of OnData.CloseDict = 48
data_number_of OnData.Length = 49
data_number_of OnData.Get = 50
data_number_of OnData.Put = 51
data_number_of OnData.Getinterval = 52
data_number_of OnData.Putinterval = 53
data_number_of OnData.Aload = 54
data_number_of OnData.Astore = 55
data_number_of OnData.Begin = 56
data_number_of OnData.End = 57
data_number_of OnData.Def = 58
data_number_of OnData.Load = 59
data_number_of OnData.Known = 60
data_number_of OnData.Where = 61
data_number_of OnData.Currentdict = 62
data_number_of OnData.Systemdict = 63
data_number_of OnData.Userdict = 64
data_number_of OnData.Cvn = 65
data_number_of OnData.Cvx = 66
data_number_of OnData.Cvlit = 67
data_number_of OnData.Xcheck = 68
data_number_of OnData.Type = 69
data_number_of OnData.Currentfile = 82
data_number_of OnData.Readstring = 83
data_number_of OnData.Readhexstring = 84

-- the number of a control operator: 70 to 79, 81
abbrev pub flow_number_of : FlowOp → ℕ
flow_number_of OnFlow.Exec = 70
flow_number_of OnFlow.If = 71
flow_number_of OnFlow.Ifelse = 72
flow_number_of OnFlow.For = 73
flow_number_of OnFlow.Repeat = 74
flow_number_of OnFlow.Loop = 75
flow_number_of OnFlow.Forall = 76
flow_number_of OnFlow.Exit = 77
flow_number_of OnFlow.Stop = 78
flow_number_of OnFlow.Stopped = 79
flow_number_of OnFlow.Bind = 81

-- the number of a graphics operator: 85 to 98, 101 to 130, 135, 136
abbrev pub gfx_number_of : GfxOp → ℕ
gfx_number_of OnGfx.Gsave = 85
gfx_number_of OnGfx.Grestore = 86
gfx_number_of OnGfx.Grestoreall = 87
gfx_number_of OnGfx.Initgraphics = 88
gfx_number_of OnGfx.Setlinewidth = 89
gfx_number_of OnGfx.Setmiterlimit = 90
gfx_number_of OnGfx.Setlinecap = 91
gfx_number_of OnGfx.Setlinejoin = 92
gfx_number_of OnGfx.Setdash = 93
gfx_number_of OnGfx.Currentlinewidth = 94
gfx_number_of OnGfx.Currentgray = 95
gfx_number_of OnGfx.Setgray = 96
gfx_number_of OnGfx.Setrgbcolor = 97
gfx_number_of OnGfx.Setcmykcolor = 98
gfx_number_of OnGfx.Matrix = 101
gfx_number_of OnGfx.Currentmatrix = 102
gfx_number_of OnGfx.Setmatrix = 103
gfx_number_of OnGfx.Concat = 104
gfx_number_of OnGfx.Initmatrix = 105
gfx_number_of OnGfx.Translate = 106
gfx_number_of OnGfx.Scale = 107
gfx_number_of OnGfx.Rotate = 108
gfx_number_of OnGfx.Transform = 109
gfx_number_of OnGfx.Itransform = 110
gfx_number_of OnGfx.Newpath = 111
gfx_number_of OnGfx.Closepath = 112
gfx_number_of OnGfx.Initclip = 113
gfx_number_of OnGfx.Moveto = 114
gfx_number_of OnGfx.Lineto = 115
gfx_number_of OnGfx.Rmoveto = 116
gfx_number_of OnGfx.Rlineto = 117
gfx_number_of OnGfx.Curveto = 118
gfx_number_of OnGfx.Rcurveto = 119
gfx_number_of OnGfx.Arc = 120
gfx_number_of OnGfx.Arcn = 121
gfx_number_of OnGfx.Currentpoint = 122
gfx_number_of OnGfx.Fill = 123
gfx_number_of OnGfx.Eofill = 124
gfx_number_of OnGfx.Stroke = 125
gfx_number_of OnGfx.Clip = 126
gfx_number_of OnGfx.Eoclip = 127
gfx_number_of OnGfx.Rectfill = 128
gfx_number_of OnGfx.Rectstroke = 129
gfx_number_of OnGfx.Rectclip = 130
gfx_number_of OnGfx.Erasepage = 135
gfx_number_of OnGfx.Setpagedevice = 136

-- the number of `quit` and of `showpage`: 80, 134
abbrev pub page_number_of : PageOp → ℕ
page_number_of OnPage.Quit = 80
page_number_of OnPage.Showpage = 134

-- the number of an operator on colour spaces: 99, 100
abbrev pub space_number_of : SpaceOp → ℕ
space_number_of OnSpace.Setcolorspace = 99
space_number_of OnSpace.Setcolor = 100

-- the number of an operator that paints an image: 131 to 133
abbrev pub image_number_of : ImageOp → ℕ
image_number_of OnImage.Image = 131
image_number_of OnImage.Imagemask = 132
image_number_of OnImage.Colorimage = 133

-- the number of an operator on fonts: 137 to 144
abbrev pub font_number_of : FontOp → ℕ
font_number_of OnFont.Definefont = 137
font_number_of OnFont.Findfont = 138
font_number_of OnFont.Scalefont = 139
font_number_of OnFont.Makefont = 140
font_number_of OnFont.Setfont = 141
font_number_of OnFont.Show = 142
font_number_of OnFont.Setcharwidth = 143
font_number_of OnFont.Setcachedevice = 144

-- an operator's place, from 0, in the table of all 145
abbrev pub number_of : Oper → ℕ
number_of (Stack op) = stack_number_of op
number_of (Data op) = data_number_of op
number_of (Flow op) = flow_number_of op
number_of (Gfx op) = gfx_number_of op
number_of (Page op) = page_number_of op
number_of (Space op) = space_number_of op
number_of (Image op) = image_number_of op
number_of (Font op) = font_number_of op

-- the name of an operator on the operands
abbrev pub stack_name_of : StackOp → List ℕ
stack_name_of OnStack.Pop = codes "pop"
stack_name_of OnStack.Exch = codes "exch"
stack_name_of OnStack.Dup = codes "dup"
stack_name_of OnStack.Clear = codes "clear"
stack_name_of OnStack.Count = codes "count"
stack_name_of OnStack.Copy = codes "copy"
stack_name_of OnStack.Index = codes "index"
stack_name_of OnStack.Roll = codes "roll"
stack_name_of OnStack.Mark = codes "mark"
stack_name_of OnStack.OpenArray = codes "["
stack_name_of OnStack.OpenDict = codes "<<"
stack_name_of OnStack.Cleartomark = codes "cleartomark"
stack_name_of OnStack.Counttomark = codes "counttomark"
stack_name_of OnStack.Add = codes "add"
stack_name_of OnStack.Sub = codes "sub"
stack_name_of OnStack.Mul = codes "mul"
stack_name_of OnStack.Div = codes "div"
stack_name_of OnStack.Idiv = codes "idiv"
stack_name_of OnStack.Mod = codes "mod"
stack_name_of OnStack.Neg = codes "neg"
stack_name_of OnStack.Abs = codes "abs"
stack_name_of OnStack.Ceiling = codes "ceiling"
stack_name_of OnStack.Floor = codes "floor"
stack_name_of OnStack.Round = codes "round"
stack_name_of OnStack.Truncate = codes "truncate"
stack_name_of OnStack.Sqrt = codes "sqrt"
stack_name_of OnStack.Sin = codes "sin"
stack_name_of OnStack.Cos = codes "cos"
stack_name_of OnStack.Cvi = codes "cvi"
stack_name_of OnStack.Cvr = codes "cvr"
stack_name_of OnStack.Eq = codes "eq"
stack_name_of OnStack.Ne = codes "ne"
stack_name_of OnStack.Gt = codes "gt"
stack_name_of OnStack.Ge = codes "ge"
stack_name_of OnStack.Lt = codes "lt"
stack_name_of OnStack.Le = codes "le"
stack_name_of OnStack.And = codes "and"
stack_name_of OnStack.Or = codes "or"
stack_name_of OnStack.Xor = codes "xor"
stack_name_of OnStack.Not = codes "not"
stack_name_of OnStack.Bitshift = codes "bitshift"

-- the name of an operator on values and composites, or input
abbrev pub data_name_of : DataOp → List ℕ
data_name_of OnData.True = codes "true"
data_name_of OnData.False = codes "false"
data_name_of OnData.Null = codes "null"
data_name_of OnData.Array = codes "array"
data_name_of OnData.String = codes "string"
data_name_of OnData.Dict = codes "dict"
data_name_of OnData.CloseArray = codes "]"
data_name_of OnData.CloseDict = codes ">>"
data_name_of OnData.Length = codes "length"
data_name_of OnData.Get = codes "get"
data_name_of OnData.Put = codes "put"
data_name_of OnData.Getinterval = codes "getinterval"
data_name_of OnData.Putinterval = codes "putinterval"
data_name_of OnData.Aload = codes "aload"
data_name_of OnData.Astore = codes "astore"
data_name_of OnData.Begin = codes "begin"
data_name_of OnData.End = codes "end"
data_name_of OnData.Def = codes "def"
data_name_of OnData.Load = codes "load"
data_name_of OnData.Known = codes "known"
data_name_of OnData.Where = codes "where"
data_name_of OnData.Currentdict = codes "currentdict"
data_name_of OnData.Systemdict = codes "systemdict"
data_name_of OnData.Userdict = codes "userdict"
data_name_of OnData.Cvn = codes "cvn"
data_name_of OnData.Cvx = codes "cvx"
data_name_of OnData.Cvlit = codes "cvlit"
data_name_of OnData.Xcheck = codes "xcheck"
data_name_of OnData.Type = codes "type"
data_name_of OnData.Currentfile = codes "currentfile"
data_name_of OnData.Readstring = codes "readstring"
data_name_of OnData.Readhexstring = codes "readhexstring"

-- the name of a control operator
abbrev pub flow_name_of : FlowOp → List ℕ
flow_name_of OnFlow.Exec = codes "exec"
flow_name_of OnFlow.If = codes "if"
flow_name_of OnFlow.Ifelse = codes "ifelse"
flow_name_of OnFlow.For = codes "for"
flow_name_of OnFlow.Repeat = codes "repeat"
flow_name_of OnFlow.Loop = codes "loop"
flow_name_of OnFlow.Forall = codes "forall"
flow_name_of OnFlow.Exit = codes "exit"
flow_name_of OnFlow.Stop = codes "stop"
flow_name_of OnFlow.Stopped = codes "stopped"
flow_name_of OnFlow.Bind = codes "bind"

-- the name of a graphics operator
abbrev pub gfx_name_of : GfxOp → List ℕ
gfx_name_of OnGfx.Gsave = codes "gsave"
gfx_name_of OnGfx.Grestore = codes "grestore"
gfx_name_of OnGfx.Grestoreall = codes "grestoreall"
gfx_name_of OnGfx.Initgraphics = codes "initgraphics"
gfx_name_of OnGfx.Setlinewidth = codes "setlinewidth"
gfx_name_of OnGfx.Setmiterlimit = codes "setmiterlimit"
gfx_name_of OnGfx.Setlinecap = codes "setlinecap"
gfx_name_of OnGfx.Setlinejoin = codes "setlinejoin"
gfx_name_of OnGfx.Setdash = codes "setdash"
gfx_name_of OnGfx.Currentlinewidth = codes "currentlinewidth"
gfx_name_of OnGfx.Currentgray = codes "currentgray"
gfx_name_of OnGfx.Setgray = codes "setgray"
gfx_name_of OnGfx.Setrgbcolor = codes "setrgbcolor"
gfx_name_of OnGfx.Setcmykcolor = codes "setcmykcolor"
gfx_name_of OnGfx.Matrix = codes "matrix"
gfx_name_of OnGfx.Currentmatrix = codes "currentmatrix"
gfx_name_of OnGfx.Setmatrix = codes "setmatrix"
gfx_name_of OnGfx.Concat = codes "concat"
gfx_name_of OnGfx.Initmatrix = codes "initmatrix"
gfx_name_of OnGfx.Translate = codes "translate"
gfx_name_of OnGfx.Scale = codes "scale"
gfx_name_of OnGfx.Rotate = codes "rotate"
gfx_name_of OnGfx.Transform = codes "transform"
gfx_name_of OnGfx.Itransform = codes "itransform"
gfx_name_of OnGfx.Newpath = codes "newpath"
gfx_name_of OnGfx.Closepath = codes "closepath"
gfx_name_of OnGfx.Initclip = codes "initclip"
gfx_name_of OnGfx.Moveto = codes "moveto"
gfx_name_of OnGfx.Lineto = codes "lineto"
gfx_name_of OnGfx.Rmoveto = codes "rmoveto"
gfx_name_of OnGfx.Rlineto = codes "rlineto"
gfx_name_of OnGfx.Curveto = codes "curveto"
gfx_name_of OnGfx.Rcurveto = codes "rcurveto"
gfx_name_of OnGfx.Arc = codes "arc"
gfx_name_of OnGfx.Arcn = codes "arcn"
gfx_name_of OnGfx.Currentpoint = codes "currentpoint"
gfx_name_of OnGfx.Fill = codes "fill"
gfx_name_of OnGfx.Eofill = codes "eofill"
gfx_name_of OnGfx.Stroke = codes "stroke"
gfx_name_of OnGfx.Clip = codes "clip"
gfx_name_of OnGfx.Eoclip = codes "eoclip"
gfx_name_of OnGfx.Rectfill = codes "rectfill"
gfx_name_of OnGfx.Rectstroke = codes "rectstroke"
gfx_name_of OnGfx.Rectclip = codes "rectclip"
gfx_name_of OnGfx.Erasepage = codes "erasepage"
gfx_name_of OnGfx.Setpagedevice = codes "setpagedevice"

-- the name of `quit` and of `showpage`
abbrev pub page_name_of : PageOp → List ℕ
page_name_of OnPage.Quit = codes "quit"
page_name_of OnPage.Showpage = codes "showpage"

-- the name of an operator on colour spaces
abbrev pub space_name_of : SpaceOp → List ℕ
space_name_of OnSpace.Setcolorspace = codes "setcolorspace"
space_name_of OnSpace.Setcolor = codes "setcolor"

-- the name of an operator that paints an image
abbrev pub image_name_of : ImageOp → List ℕ
image_name_of OnImage.Image = codes "image"
image_name_of OnImage.Imagemask = codes "imagemask"
image_name_of OnImage.Colorimage = codes "colorimage"

-- the name of an operator on fonts
abbrev pub font_name_of : FontOp → List ℕ
font_name_of OnFont.Definefont = codes "definefont"
font_name_of OnFont.Findfont = codes "findfont"
font_name_of OnFont.Scalefont = codes "scalefont"
font_name_of OnFont.Makefont = codes "makefont"
font_name_of OnFont.Setfont = codes "setfont"
font_name_of OnFont.Show = codes "show"
font_name_of OnFont.Setcharwidth = codes "setcharwidth"
font_name_of OnFont.Setcachedevice = codes "setcachedevice"

-- the name by which a program calls an operator
abbrev pub name_of : Oper → List ℕ
name_of (Stack op) = stack_name_of op
name_of (Data op) = data_name_of op
name_of (Flow op) = flow_name_of op
name_of (Gfx op) = gfx_name_of op
name_of (Page op) = page_name_of op
name_of (Space op) = space_name_of op
name_of (Image op) = image_name_of op
name_of (Font op) = font_name_of op

-- the operators that are built, in the order of their numbers: none on colour spaces and fonts yet
abbrev pub operators_built : List Oper
operators_built = Stack OnStack.Pop ∷ Stack OnStack.Exch ∷ Stack OnStack.Dup ∷
    Stack OnStack.Clear ∷ Stack OnStack.Count ∷ Stack OnStack.Copy ∷ Stack OnStack.Index ∷
    Stack OnStack.Roll ∷ Stack OnStack.Mark ∷ Stack OnStack.OpenArray ∷ Stack OnStack.OpenDict ∷
    Stack OnStack.Cleartomark ∷ Stack OnStack.Counttomark ∷ Stack OnStack.Add ∷
    Stack OnStack.Sub ∷ Stack OnStack.Mul ∷ Stack OnStack.Div ∷ Stack OnStack.Idiv ∷
    Stack OnStack.Mod ∷ Stack OnStack.Neg ∷ Stack OnStack.Abs ∷ Stack OnStack.Ceiling ∷
    Stack OnStack.Floor ∷ Stack OnStack.Round ∷ Stack OnStack.Truncate ∷ Stack OnStack.Sqrt ∷
    Stack OnStack.Sin ∷ Stack OnStack.Cos ∷ Stack OnStack.Cvi ∷ Stack OnStack.Cvr ∷
    Stack OnStack.Eq ∷ Stack OnStack.Ne ∷ Stack OnStack.Gt ∷ Stack OnStack.Ge ∷ Stack OnStack.Lt ∷
    Stack OnStack.Le ∷ Stack OnStack.And ∷ Stack OnStack.Or ∷ Stack OnStack.Xor ∷
    Stack OnStack.Not ∷ Stack OnStack.Bitshift ∷ Data OnData.True ∷ Data OnData.False ∷
    Data OnData.Null ∷ Data OnData.Array ∷ Data OnData.String ∷ Data OnData.Dict ∷
    Data OnData.CloseArray ∷ Data OnData.CloseDict ∷ Data OnData.Length ∷ Data OnData.Get ∷
    Data OnData.Put ∷ Data OnData.Getinterval ∷ Data OnData.Putinterval ∷ Data OnData.Aload ∷
    Data OnData.Astore ∷ Data OnData.Begin ∷ Data OnData.End ∷ Data OnData.Def ∷
    Data OnData.Load ∷ Data OnData.Known ∷ Data OnData.Where ∷ Data OnData.Currentdict ∷
    Data OnData.Systemdict ∷ Data OnData.Userdict ∷ Data OnData.Cvn ∷ Data OnData.Cvx ∷
    Data OnData.Cvlit ∷ Data OnData.Xcheck ∷ Data OnData.Type ∷ Flow OnFlow.Exec ∷
    Flow OnFlow.If ∷ Flow OnFlow.Ifelse ∷ Flow OnFlow.For ∷ Flow OnFlow.Repeat ∷
    Flow OnFlow.Loop ∷ Flow OnFlow.Forall ∷ Flow OnFlow.Exit ∷ Flow OnFlow.Stop ∷
    Flow OnFlow.Stopped ∷ Page OnPage.Quit ∷ Flow OnFlow.Bind ∷ Data OnData.Currentfile ∷
    Data OnData.Readstring ∷ Data OnData.Readhexstring ∷
    Gfx OnGfx.Gsave ∷ Gfx OnGfx.Grestore ∷ Gfx OnGfx.Grestoreall ∷ Gfx OnGfx.Initgraphics ∷
    Gfx OnGfx.Setlinewidth ∷ Gfx OnGfx.Setmiterlimit ∷ Gfx OnGfx.Setlinecap ∷
    Gfx OnGfx.Setlinejoin ∷ Gfx OnGfx.Setdash ∷ Gfx OnGfx.Currentlinewidth ∷
    Gfx OnGfx.Currentgray ∷ Gfx OnGfx.Setgray ∷ Gfx OnGfx.Setrgbcolor ∷ Gfx OnGfx.Setcmykcolor ∷
    Gfx OnGfx.Matrix ∷ Gfx OnGfx.Currentmatrix ∷ Gfx OnGfx.Setmatrix ∷ Gfx OnGfx.Concat ∷
    Gfx OnGfx.Initmatrix ∷ Gfx OnGfx.Translate ∷ Gfx OnGfx.Scale ∷ Gfx OnGfx.Rotate ∷
    Gfx OnGfx.Transform ∷ Gfx OnGfx.Itransform ∷ Gfx OnGfx.Newpath ∷ Gfx OnGfx.Closepath ∷
    Gfx OnGfx.Initclip ∷ Gfx OnGfx.Moveto ∷ Gfx OnGfx.Lineto ∷ Gfx OnGfx.Rmoveto ∷
    Gfx OnGfx.Rlineto ∷ Gfx OnGfx.Curveto ∷ Gfx OnGfx.Rcurveto ∷ Gfx OnGfx.Arc ∷ Gfx OnGfx.Arcn ∷
    Gfx OnGfx.Currentpoint ∷ Gfx OnGfx.Fill ∷ Gfx OnGfx.Eofill ∷ Gfx OnGfx.Stroke ∷
    Gfx OnGfx.Clip ∷ Gfx OnGfx.Eoclip ∷ Gfx OnGfx.Rectfill ∷ Gfx OnGfx.Rectstroke ∷
    Gfx OnGfx.Rectclip ∷ Image OnImage.Image ∷ Image OnImage.Imagemask ∷
    Image OnImage.Colorimage ∷ Page OnPage.Showpage ∷ Gfx OnGfx.Erasepage ∷ Gfx OnGfx.Setpagedevice ∷ []

-- whether each number is below the next
abbrev pub is_rising : List ℕ → Bool
is_rising [] = true
is_rising (a ∷ []) = true
is_rising (a ∷ b ∷ rest) = nat_lt a b && is_rising (b ∷ rest)
