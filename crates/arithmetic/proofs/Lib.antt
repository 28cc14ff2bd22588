mod Lent
